-- The list of a program's locations, and the order of struct types by which it is finite.
use Rattle.std.specs.Prelude.{◌≡◌, ℕ, Bool, true, List, [], ◌∷◌, map, nat_lt, slice_get, Some, Contains}
use Rattle.c_tree.specs.declared.program.Member.{Member}
use Rattle.c_tree.specs.declared.program.Program.{Program}
use Rattle.c_language.specs.declared.expr_type.Base.{Base}
use Rattle.c_language.specs.declared.expr_type.Base.TheVariants as base
use Rattle.c_language.specs.declared.expr_type.Layer.{Layer}
use Rattle.c_language.specs.declared.expr_type.Layer.TheVariants.{Pointer, Array}
use Rattle.c_language.specs.declared.expr_type.ExprType.{ExprType}
use Rattle.c_language.specs.TreeTypes.{shape_of, members_of}
use Rattle.dep_model.specs.declared.location.Location.{Location}
use Rattle.dep_model.specs.Locations.{TypedLocation, locations}

-- the locations of a program, in their order
abbrev pub location_list : Program → List Location
location_list p = map (λ (o : TypedLocation). o.location) (locations p)

abbrev pub is_base_before : ℕ → Base → Bool
is_base_before n (base.Struct s) = nat_lt s n
is_base_before n (base.Integer t) = true
is_base_before n base.Void = true

abbrev pub are_layers_before : ℕ → List Layer → Base → Bool
are_layers_before n [] b = is_base_before n b
are_layers_before n (Pointer ∷ ls) b = true
are_layers_before n (Array k ∷ ls) b = are_layers_before n ls b

-- an object of the type has a struct type with a smaller number in it, or none; what a pointer points to isn't in it
abbrev pub is_before : ℕ → ExprType → Bool
is_before n t = are_layers_before n t.layers t.base

-- no struct type has itself or a later one in it (ISO C99 6.7.2.1, paragraph 2)
abbrev pub AreStructsInOrder : Program → Type 0
AreStructsInOrder p = (s : ℕ) (m : Member) → Contains (members_of p s) m → is_before s (shape_of m.shape) ≡ true

-- no location of the program stands in its list twice
pub record AreListedOnce (p : Program) : Type 0 where
  pub once : (j k : ℕ) (l : Location) → slice_get (location_list p) j ≡ Some l → slice_get (location_list p) k ≡ Some l → j ≡ k
