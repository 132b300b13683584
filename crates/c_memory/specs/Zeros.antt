-- Cells of 0 and of null pointers: those of objects that wait for their cells, and how many turns it takes to make them.
use Rattle.std.specs.Prelude.{ℕ, ◌+◌, ◌*◌, List, [], ◌∷◌, ◌++◌, map, take, Option, Some, slice_index_or}
use Rattle.std.specs.List.{repeat}
use Rattle.c_language.specs.declared.expr_type.Base.{Base}
use Rattle.c_language.specs.declared.expr_type.Base.TheVariants as base
use Rattle.c_language.specs.declared.expr_type.Layer.{Layer}
use Rattle.c_language.specs.declared.expr_type.Layer.TheVariants.{Pointer, Array}
use Rattle.c_language.specs.declared.expr_type.ExprType.{ExprType}
use Rattle.c_meaning.specs.declared.value.Value.{Value}
use Rattle.c_meaning.specs.Acts.{zero_of}
use Rattle.c_meaning.specs.Cells.{Structs, base_cells, layered_cells, member_cells, cells_behind}
use Rattle.c_memory.specs.declared.layouts.zeros.Waiting.{Waiting}

-- ---- cells

-- what the cell of a scalar object begins with
abbrev pub zero_cell : ExprType → Option Value
zero_cell t = Some (zero_of t)

-- the cells of the struct types below a limit
abbrev pub cells_below : Structs → ℕ → List (List ExprType)
cells_below structs limit = take limit (cells_behind [] structs)

abbrev pub struct_zeros : Structs → (limit s : ℕ) → List (Option Value)
struct_zeros structs limit s = map zero_cell (base_cells (cells_below structs limit) (base.Struct s))

abbrev pub member_zeros : Structs → (limit : ℕ) → List ExprType → List (Option Value)
member_zeros structs limit ts = map zero_cell (member_cells (cells_below structs limit) ts)

-- the cells of one of the objects
abbrev pub object_zeros : Structs → Waiting → List (Option Value)
object_zeros structs w = map zero_cell (layered_cells (cells_below structs w.limit) w.layers.now w.base)

abbrev pub waiting_zeros : Structs → Waiting → List (Option Value)
waiting_zeros structs w = repeat w.times (object_zeros structs w)

-- the last one is the next
abbrev pub all_zeros : Structs → List Waiting → List (Option Value)
all_zeros structs [] = []
all_zeros structs (w ∷ ws) = all_zeros structs ws ++ waiting_zeros structs w

-- ---- turns

-- how many turns the parts of an object take, where those of the struct types before take so many
abbrev pub layered_turns : List ℕ → List Layer → Base → ℕ
layered_turns known [] (base.Struct s) = slice_index_or known s 0
layered_turns known [] (base.Integer t) = 0
layered_turns known [] base.Void = 0
layered_turns known (Pointer ∷ ls) b = 0
layered_turns known (Array n ∷ ls) b = 1 + n * (1 + layered_turns known ls b)

abbrev pub turns_of_members : List ℕ → List ExprType → ℕ
turns_of_members known [] = 0
turns_of_members known (t ∷ ts) = 1 + 1 * (1 + layered_turns known t.layers t.base) + turns_of_members known ts

-- those of struct types, behind those of the types before them
abbrev pub turns_behind : List ℕ → Structs → List ℕ
turns_behind known [] = known
turns_behind known (ts ∷ rest) = turns_behind (known ++ turns_of_members known ts ∷ []) rest

abbrev pub turns_below : Structs → ℕ → List ℕ
turns_below structs limit = take limit (turns_behind [] structs)

abbrev pub struct_turns : Structs → (limit s : ℕ) → ℕ
struct_turns structs limit s = slice_index_or (turns_below structs limit) s 0

abbrev pub member_turns : Structs → (limit : ℕ) → List ExprType → ℕ
member_turns structs limit ts = turns_of_members (turns_below structs limit) ts

abbrev pub object_turns : Structs → Waiting → ℕ
object_turns structs w = layered_turns (turns_below structs w.limit) w.layers.now w.base

-- each object takes one turn more than its parts, and their end takes one
abbrev pub waiting_turns : Structs → Waiting → ℕ
waiting_turns structs w = 1 + w.times * (1 + object_turns structs w)

abbrev pub all_turns : Structs → List Waiting → ℕ
all_turns structs [] = 0
all_turns structs (w ∷ ws) = all_turns structs ws + waiting_turns structs w
