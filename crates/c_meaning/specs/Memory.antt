-- Memory: blocks with their cells, by the calls that change and read it (ISO C99 6.2.4, 6.5.6, 7.20.3).
use Rattle.std.specs.Prelude.{ℕ, zero, suc, ◌==◌, List, [], ◌∷◌, ◌++◌, map, Bool, true, false, ◌&&◌, Option, Some, None, option_and_then, is_some, slice_get}
use Rattle.std.specs.Option.{option_map_or}
use Rattle.c_language.specs.DeclaredTypes.{with_layer}
use Rattle.c_language.specs.declared.expr_type.ExprType.{ExprType}
use Rattle.c_language.specs.declared.expr_type.Layer.TheVariants.{Array}
use Rattle.c_meaning.specs.declared.value.Hop.{Hop}
use Rattle.c_meaning.specs.declared.value.Place.{Place}
use Rattle.c_meaning.specs.declared.value.Pointer.{Pointer}
use Rattle.c_meaning.specs.declared.value.Value.{Value}
use Rattle.c_meaning.specs.Cells.{Structs, cells, cell_number}

-- the block of a variable, or one that malloc made
pub data Kind : Type 0 where
  Entered : Kind
  Allocated : Kind

-- a block: the type of the whole, and its cells, each with a value or nothing; one that is gone keeps its type and has no cells
pub record Block : Type 0 where
  pub shape : ExprType
  pub kind : Kind
  pub is_live : Bool
  pub cells : List (Option Value)

-- all blocks there ever were, and the struct types of the program: the block with number k is the k-th, so no number is used twice
pub record Memory : Type 0 where
  pub structs : Structs
  pub blocks : List Block

-- ---- reading and writing

-- what the cell at the end of a path holds, where there is one
abbrev pub cell_in : Structs → List Hop → Block → Option (Option Value)
cell_in structs path b = option_and_then (slice_get b.cells) (cell_number structs path b.shape)

abbrev pub cell : Memory → Place → Option (Option Value)
cell m p = option_and_then (cell_in m.structs p.path) (slice_get m.blocks p.block)

-- the place is a cell of a live block, which alone can be written
abbrev pub is_cell : Memory → Place → Bool
is_cell m p = is_some (cell m p)

abbrev pub held : Option Value → Option Value
held o = o

-- the value at a place; reading is undefined where there is no cell of a live block, or nothing was written in it
abbrev pub read : Memory → Place → Option Value
read m p = option_and_then held (cell m p)

-- a list with another item at a number
abbrev pub changed : {A : Type 0} → (A → A) → ℕ → List A → List A
changed f n [] = []
changed f zero (x ∷ xs) = f x ∷ xs
changed f (suc n) (x ∷ xs) = x ∷ changed f n xs

abbrev pub filled : Value → Option ℕ → List (Option Value) → List (Option Value)
filled v None os = os
filled v (Some n) os = changed (λ (o : Option Value). Some v) n os

abbrev pub with_cell : Structs → List Hop → Value → Block → Block
with_cell structs path v b = record b { cells = filled v (cell_number structs path b.shape) b.cells }

-- the blocks, with another one at a number
abbrev pub with_block : (Block → Block) → ℕ → Memory → Memory
with_block f n m = record m { blocks = changed f n m.blocks }

-- the memory after a write
abbrev pub write : Place → Value → Memory → Memory
write p v m = with_block (with_cell m.structs p.path v) p.block m

-- ---- blocks that begin and go

-- a block in which nothing is written
abbrev pub unwritten : Structs → ExprType → Kind → Block
unwritten structs shape kind = record {
  shape = shape;
  kind = kind;
  is_live = true;
  cells = map (λ (t : ExprType). None) (cells structs shape);
}

abbrev pub with_new : Block → Memory → Memory
with_new b m = record m { blocks = m.blocks ++ b ∷ [] }

-- the memory with a new block for a variable, whose number is the count of the blocks before it
abbrev pub enter : ExprType → Memory → Memory
enter shape m = with_new (unwritten m.structs shape Entered) m

-- the type of a block that malloc makes: an array of so many objects
abbrev pub array_of : ℕ → ExprType → ExprType
array_of count shape = with_layer (Array count) shape

-- the memory with a new block of so many objects
abbrev pub allocate : ExprType → ℕ → Memory → Memory
allocate shape count m = with_new (unwritten m.structs (array_of count shape) Allocated) m

abbrev pub gone : Block → Block
gone b = record b { is_live = false; cells = [] }

-- the memory where a block is gone
abbrev pub leave : ℕ → Memory → Memory
leave n m = with_block gone n m

abbrev pub is_allocated : Kind → Bool
is_allocated Entered = false
is_allocated Allocated = true

abbrev pub is_whole : List Hop → Bool
is_whole [] = true
is_whole (h ∷ hs) = false

-- the start of a live block that malloc made, which alone can be freed (7.20.3.2)
abbrev pub can_free : Memory → Pointer → Bool
can_free m p =
    option_map_or (λ (b : Block). b.is_live && is_allocated b.kind) (slice_get m.blocks p.block) false
    && (is_whole p.path && (p.index == 0))
