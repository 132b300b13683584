-- Locations as a graph is printed: a root, then `.` with the name of each member and `[]` for elements.
use Rattle.std.specs.Prelude.{ℕ, List, [], ◌∷◌, ◌++◌, Option, Some, None, codes, slice_get}
use Rattle.std.specs.Fmt.{decimal}
use Rattle.std.specs.Option.{option_map_or}
use Rattle.c_tree.specs.declared.expr.MemberId.{MemberId}
use Rattle.c_tree.specs.declared.program.Program.{Program}
use Rattle.c_tree.specs.declared.program.Var.{Var}
use Rattle.c_language.specs.DeclaredTypes.{void}
use Rattle.c_language.specs.declared.expr_type.Base.{Base}
use Rattle.c_language.specs.declared.expr_type.Base.TheVariants as base
use Rattle.c_language.specs.declared.expr_type.ExprType.{ExprType}
use Rattle.c_language.specs.TreeTypes.{pointee, type_of_variable, type_of_member}
use Rattle.c_language.specs.Words.{Bytes, name_of_member}
use Rattle.dep_model.specs.declared.location.Location.{Location}
use Rattle.dep_model.specs.declared.location.Part.{Part}
use Rattle.dep_model.specs.declared.location.Part.TheVariants as part
use Rattle.dep_model.specs.declared.location.Root.{Root}
use Rattle.dep_model.specs.declared.location.Root.TheVariants as root
use Rattle.graph_text.specs.declared.rows.Row.{Row}
use Rattle.graph_text.specs.Rows.{line_at, elements_at}

-- the number of an object's struct type
abbrev pub struct_of : Base → ℕ
struct_of (base.Struct s) = s
struct_of (base.Integer t) = 0
struct_of base.Void = 0

-- member number k of an object of a struct type
abbrev pub member_at : ExprType → ℕ → MemberId
member_at t k = record { owner = struct_of t.base; index = k }

abbrev pub part_words : Program → ExprType → Part → Bytes
part_words p t (part.Member k) = codes "." ++ name_of_member p (member_at t k)
part_words p t part.Element = codes "[]"

-- the type of a part of an object
abbrev pub part_type : Program → ExprType → Part → ExprType
part_type p t (part.Member k) = type_of_member p (member_at t k)
part_type p t part.Element = pointee t

-- the steps to a part of an object of this type
abbrev pub path_words : Program → ExprType → List Part → Bytes
path_words p t [] = []
path_words p t (h ∷ hs) = part_words p t h ++ path_words p (part_type p t h) hs

-- a local and a parameter are told apart by their lines
abbrev pub owned_words : Option ℕ → ℕ → Bytes
owned_words None line = []
owned_words (Some f) line = codes "@" ++ decimal line

abbrev pub var_words : Var → Bytes
var_words v = v.name ++ owned_words v.owner v.line

-- where a location begins; the result of a function is carried by a slot of its own
abbrev pub root_words : Program → List Row → Root → Bytes
root_words p rows root.Input = codes "input"
root_words p rows (root.Variable x) = option_map_or var_words (slice_get p.vars x) []
root_words p rows (root.Site i) = codes "malloc@" ++ decimal (line_at rows i)
root_words p rows (root.Result f) = codes "result"

-- the type of what begins there
abbrev pub root_type : Program → List Row → Root → ExprType
root_type p rows root.Input = void
root_type p rows (root.Variable x) = type_of_variable p x
root_type p rows (root.Site i) = elements_at rows i
root_type p rows (root.Result f) = void

abbrev pub location_words : Program → List Row → Location → Bytes
location_words p rows l = root_words p rows l.root ++ path_words p (root_type p rows l.root) l.path
