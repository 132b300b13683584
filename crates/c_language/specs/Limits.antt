-- The quantities of a program that have a greatest number: the lengths of its arrays, and the cells of its objects.
use Rattle.std.specs.Prelude.{ℕ, ◌+◌, ◌*◌, max, List, [], ◌∷◌, ◌++◌, slice_index_or}
use Rattle.c_tree.specs.declared.types.CType.{CType, fold-CType}
use Rattle.c_tree.specs.declared.types.CType.TheOpen.{CType-F}
use Rattle.c_tree.specs.declared.program.Var.{Var}
use Rattle.c_tree.specs.declared.program.Member.{Member}
use Rattle.c_tree.specs.declared.program.StructDef.{StructDef}
use Rattle.c_tree.specs.declared.program.Program.{Program}
use Rattle.c_language.specs.Lists.{greatest}

abbrev pub length_step : CType-F ℕ → ℕ
length_step (CType-F.Integer t) = 0
length_step (CType-F.PointerTo a) = a
length_step (CType-F.Array a n words) = max n a
length_step (CType-F.Struct s) = 0

-- the greatest length in a type
abbrev pub longest : CType → ℕ
longest = fold-CType ℕ length_step

abbrev pub longest_member : List Member → ℕ
longest_member [] = 0
longest_member (m ∷ ms) = max (longest m.shape) (longest_member ms)

abbrev pub longest_in_structs : List StructDef → ℕ
longest_in_structs [] = 0
longest_in_structs (d ∷ ds) = max (longest_member d.members) (longest_in_structs ds)

abbrev pub longest_in_variables : List Var → ℕ
longest_in_variables [] = 0
longest_in_variables (v ∷ vs) = max (longest v.shape) (longest_in_variables vs)

-- the greatest array length of a program
abbrev pub array_length : Program → ℕ
array_length p = max (longest_in_structs p.structs) (longest_in_variables p.vars)

-- the cells of a type, where each struct type before has so many: an integer and a pointer have one
abbrev pub cells_step : List ℕ → CType-F ℕ → ℕ
cells_step structs (CType-F.Integer t) = 1
cells_step structs (CType-F.PointerTo a) = 1
cells_step structs (CType-F.Array a n words) = n * a
cells_step structs (CType-F.Struct s) = slice_index_or structs s 0

abbrev pub cells : List ℕ → CType → ℕ
cells structs = fold-CType ℕ (cells_step structs)

abbrev pub member_cells : List ℕ → List Member → ℕ
member_cells structs [] = 0
member_cells structs (m ∷ ms) = cells structs m.shape + member_cells structs ms

-- the cells of struct types, behind those of the types before them: a member's struct type stands before its own
abbrev pub cells_behind : List ℕ → List StructDef → List ℕ
cells_behind before [] = before
cells_behind before (d ∷ ds) = cells_behind (before ++ member_cells before d.members ∷ []) ds

-- the cells of each struct type of a program
abbrev pub struct_cells : Program → List ℕ
struct_cells p = cells_behind [] p.structs

abbrev pub greatest_variable : List ℕ → List Var → ℕ
greatest_variable structs [] = 0
greatest_variable structs (v ∷ vs) = max (cells structs v.shape) (greatest_variable structs vs)

-- the greatest number of cells of a variable or a struct type of a program
abbrev pub object_cells : Program → ℕ
object_cells p = max (greatest (struct_cells p)) (greatest_variable (struct_cells p) p.vars)
