-- How the memory of a slice agrees with that of its original: blocks stand for blocks, one to one, and cells hold equal values up to that.
use Rattle.std.specs.Prelude.{◌≡◌, ℕ, ℤ, List, ◌++◌, length, Bool, true, false, Option, Some, None, slice_get}
use Rattle.c_meaning.specs.declared.value.Hop.{Hop}
use Rattle.c_meaning.specs.declared.value.Place.{Place}
use Rattle.c_meaning.specs.declared.value.Value.{Value}
use Rattle.c_meaning.specs.declared.value.Value.TheVariants.{Number, Null, To}
use Rattle.c_meaning.specs.Memory.{Block, read, is_cell}
use Rattle.c_meaning.specs.Values.{Origin, OfVariable, OfStatement, State}
use Rattle.dep_model.specs.declared.location.Location.{Location}
use Rattle.dep_model.specs.DoingEffects.{the_input, result_of}
use Rattle.run_facts.specs.CellLocations.{location_of}
use Rattle.run_facts.specs.Counting.{Counts}

-- ---- worlds

-- the item with a number is the original's block for which the slice's block with that number stands; blocks are never forgotten, so
-- a world only grows
abbrev pub World : Type 0
World = List ℕ

-- block b of the original is that of block c of the slice
abbrev pub Stands : World → (b c : ℕ) → Type 0
Stands w b c = slice_get w c ≡ Some b

pub record Grows (w u : World) : Type 0 where
  pub more : List ℕ
  pub world_is : u ≡ w ++ more

-- ---- values and cells

-- equal values, but that a pointer leads to the block that stands for the other's
pub data AlikeValue (w : World) : Value → Value → Type 0 where
  number : {z : ℤ} → AlikeValue w (Number z) (Number z)
  null : AlikeValue w Null Null
  pointer :
      {b c : ℕ} {path : List Hop} {index : ℕ} → Stands w b c
      → AlikeValue w (To (record { block = b; path = path; index = index })) (To (record { block = c; path = path; index = index }))

-- both hold such values, or both are empty
pub data AlikeCell (w : World) : Option Value → Option Value → Type 0 where
  empty : AlikeCell w None None
  held : {u v : Value} → AlikeValue w u v → AlikeCell w (Some u) (Some v)

-- ---- blocks and frames

abbrev pub cell_at : ℕ → List Hop → Place
cell_at b path = record { block = b; path = path }

-- what variables and statements are in the slice, and which variables it has
pub record Names : Type 0 where
  pub variable : ℕ → ℕ
  pub stays : ℕ → Bool
  pub statement : ℕ → ℕ

module _ (names : Names) where
  -- a block of the same variable, or of the same malloc
  pub data SameOrigin : Origin → Origin → Type 0 where
    of_variable : {x : ℕ} → names.stays x ≡ true → SameOrigin (OfVariable x) (OfVariable (names.variable x))
    of_statement : {i : ℕ} → SameOrigin (OfStatement i) (OfStatement (names.statement i))

  -- block c of the slice stands for one of the original, of the same type and kind, made by the same; and it is gone only where that is
  pub record StandsForOne (w : World) (m n : State) (c : ℕ) (there : Block) : Type 0 where
    pub number : ℕ
    pub stands : Stands w number c
    pub block : Block
    pub block_is : slice_get m.memory.blocks number ≡ Some block
    pub shape_is : there.shape ≡ block.shape
    pub kind_is : there.kind ≡ block.kind
    pub origin : Origin
    pub origin_there : Origin
    pub origin_is : slice_get m.origins number ≡ Some origin
    pub origin_there_is : slice_get n.origins c ≡ Some origin_there
    pub origins_are : SameOrigin origin origin_there
    pub gone : there.is_live ≡ false → block.is_live ≡ false

  -- each block of the slice in n stands for one of the original in m, no two for one
  pub record BlocksStand (w : World) (m n : State) : Type 0 where
    pub structs_are : m.memory.structs ≡ n.memory.structs
    pub count_is : length w ≡ length n.memory.blocks
    pub each : (c : ℕ) (there : Block) → slice_get n.memory.blocks c ≡ Some there → StandsForOne w m n c there
    pub one_to_one : (b c d : ℕ) → Stands w b c → Stands w b d → c ≡ d

  -- a variable that stays has begun in neither, or its block stands for its block
  pub data BothStand (w : World) : Option ℕ → Option ℕ → Type 0 where
    neither : BothStand w None None
    both : {b c : ℕ} → Stands w b c → BothStand w (Some b) (Some c)

  abbrev pub FramesStand : World → (ℕ → Option ℕ) → (ℕ → Option ℕ) → Type 0
  FramesStand w here there = (x : ℕ) → names.stays x ≡ true → BothStand w (here x) (there (names.variable x))

-- ---- what is at a location

module _ (outside : Location → Bool) where
  -- the cells at a location in live blocks of the original, the unread input, and what the function that runs has returned are alike
  pub record AlikeAt (w : World) (l : Location) (m n : State) : Type 0 where
    pub cells :
        (b c : ℕ) (path : List Hop) → Stands w b c → Counts outside l m b → is_cell m.memory (cell_at b path) ≡ true
        → location_of m.origins (cell_at b path) ≡ Some l → AlikeCell w (read m.memory (cell_at b path)) (read n.memory (cell_at c path))
    pub input : l ≡ the_input → m.unread ≡ n.unread
    pub result : (f : ℕ) → l ≡ result_of f → AlikeCell w m.returned n.returned
