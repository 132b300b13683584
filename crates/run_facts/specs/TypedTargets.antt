-- The types of a pair of points-to.
use Rattle.std.specs.Prelude.{◌≡◌, Some, Contains}
use Rattle.c_tree.specs.declared.program.Program.{Program}
use Rattle.c_language.specs.ExprTypes.{target_of}
use Rattle.c_language.specs.declared.expr_type.ExprType.{ExprType}
use Rattle.dep_model.specs.declared.location.Location.{Location}
use Rattle.dep_model.specs.Locations.{locations}

-- both are locations of the program, the first one of a pointer, and the second one of what its type points to
pub record HasTargetType (p : Program) (l m : Location) : Type 0 where
  pub pointer : ExprType
  pub pointer_is : Contains (locations p) (record { location = l; type = pointer })
  pub object : ExprType
  pub object_is : Contains (locations p) (record { location = m; type = object })
  pub target_is : target_of pointer ≡ Some object
