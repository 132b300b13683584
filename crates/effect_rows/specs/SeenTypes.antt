-- The types that are seen in a program's tree.
use Rattle.c_tree.specs.declared.program.Program.{Program}
use Rattle.c_language.specs.declared.expr_type.ExprType.{ExprType}
use Rattle.c_language.specs.DeclaredTypes.{integer, pointer_to, void}
use Rattle.c_language.specs.TreeTypes.{shape_of, tree_type}
use Rattle.effect_rows.specs.declared.seen_types.SeenType.{SeenType}
use Rattle.effect_rows.specs.declared.seen_types.SeenType.TheVariants.{Integer, Void, VoidPointer, Declared, PointerTo, AddressOf}

-- the type that is seen
abbrev pub type_seen : Program → SeenType → ExprType
type_seen p (Integer i) = integer i
type_seen p Void = void
type_seen p VoidPointer = pointer_to void
type_seen p (Declared t) = shape_of t.now
type_seen p (PointerTo t) = pointer_to (shape_of t.now)
type_seen p (AddressOf e) = pointer_to (tree_type p e.now)
