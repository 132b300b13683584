-- What an object consists of: its cells one after another, and the parts to which paths lead (ISO C99 6.2.5, 6.7.2.1).
use Rattle.std.specs.Prelude.{ℕ, zero, suc, ◌+◌, ◌*◌, nat_lt, List, [], ◌∷◌, ◌++◌, length, map, if◌then◌else◌, Option, Some, None, option_map, option_and_then, slice_index_or}
use Rattle.std.specs.List.{repeat}
use Rattle.c_tree.specs.declared.program.Member.{Member}
use Rattle.c_tree.specs.declared.program.Program.{Program}
use Rattle.c_tree.specs.declared.program.StructDef.{StructDef}
use Rattle.c_language.specs.declared.expr_type.Base.{Base}
use Rattle.c_language.specs.declared.expr_type.Base.TheVariants as base
use Rattle.c_language.specs.declared.expr_type.Layer.{Layer}
use Rattle.c_language.specs.declared.expr_type.Layer.TheVariants.{Pointer, Array}
use Rattle.c_language.specs.declared.expr_type.ExprType.{ExprType}
use Rattle.c_language.specs.DeclaredTypes.{integer}
use Rattle.c_language.specs.ExprTypes.{is_scalar, struct_of}
use Rattle.c_language.specs.TreeTypes.{shape_of}
use Rattle.c_meaning.specs.declared.value.Hop.{Hop}
use Rattle.c_meaning.specs.declared.value.Hop.TheVariants as hop

-- the types of the members of each struct type, in text order
abbrev pub Structs : Type 0
Structs = List (List ExprType)

abbrev pub structs_of : Program → Structs
structs_of p = map (λ (d : StructDef). map (λ (m : Member). shape_of m.shape) d.members) p.structs

-- ---- cells

-- the types of the cells of a base, where the struct types before have these: an integer has one cell
abbrev pub base_cells : List (List ExprType) → Base → List ExprType
base_cells known (base.Integer t) = integer t ∷ []
base_cells known (base.Struct s) = slice_index_or known s []
base_cells known base.Void = []

-- a pointer has one cell, and an array the cells of its elements one after another
abbrev pub layered_cells : List (List ExprType) → List Layer → Base → List ExprType
layered_cells known [] b = base_cells known b
layered_cells known (Pointer ∷ ls) b = (record { layers = Pointer ∷ ls; base = b }) ∷ []
layered_cells known (Array n ∷ ls) b = repeat n (layered_cells known ls b)

-- a struct has the cells of its members one after another
abbrev pub member_cells : List (List ExprType) → List ExprType → List ExprType
member_cells known [] = []
member_cells known (t ∷ ts) = layered_cells known t.layers t.base ++ member_cells known ts

-- those of struct types, behind those of the types before them: a member's struct type stands before its own
abbrev pub cells_behind : List (List ExprType) → Structs → List (List ExprType)
cells_behind known [] = known
cells_behind known (ts ∷ rest) = cells_behind (known ++ member_cells known ts ∷ []) rest

-- the types of an object's cells, in order
abbrev pub cells : Structs → ExprType → List ExprType
cells structs t = layered_cells (cells_behind [] structs) t.layers t.base

abbrev pub cell_count : Structs → ExprType → ℕ
cell_count structs t = length (cells structs t)

-- ---- parts

-- an object in an object: its type, and how many cells of the whole stand before it
pub record Subobject : Type 0 where
  pub type : ExprType
  pub before : ℕ

abbrev pub behind : ℕ → Subobject → Subobject
behind n o = record { type = o.type; before = n + o.before }

-- the element with an index
abbrev pub element_in : Structs → ℕ → List Layer → Base → Option Subobject
element_in structs i [] b = None
element_in structs i (Pointer ∷ ls) b = None
element_in structs i (Array n ∷ ls) b =
    let t : ExprType = record { layers = ls; base = b } in
    if nat_lt i n then Some (record { type = t; before = i * cell_count structs t }) else None

-- the member with a place among members of these types
abbrev pub member_in : Structs → ℕ → List ExprType → Option Subobject
member_in structs i [] = None
member_in structs zero (t ∷ ts) = Some (record { type = t; before = 0 })
member_in structs (suc i) (t ∷ ts) = option_map (behind (cell_count structs t)) (member_in structs i ts)

-- the part to which one step leads: a member of a struct, or an element of an array
abbrev pub part : Structs → Hop → ExprType → Option Subobject
part structs (hop.Member i) t = option_and_then (λ (s : ℕ). member_in structs i (slice_index_or structs s [])) (struct_of t)
part structs (hop.Element i) t = element_in structs i t.layers t.base

-- the part at the end of a path
abbrev pub subobject : Structs → List Hop → ExprType → Option Subobject
subobject structs [] t = Some (record { type = t; before = 0 })
subobject structs (h ∷ hs) t =
    option_and_then (λ (o : Subobject). option_map (behind o.before) (subobject structs hs o.type)) (part structs h t)

abbrev pub scalar_number : Subobject → Option ℕ
scalar_number o = if is_scalar o.type then Some o.before else None

-- the number of the cell at the end of a path; None where there is no integer and no pointer
abbrev pub cell_number : Structs → List Hop → ExprType → Option ℕ
cell_number structs path t = option_and_then scalar_number (subobject structs path t)
