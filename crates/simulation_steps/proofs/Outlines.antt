-- What a step leaves of blocks: their types and kinds, what made them, and that they are gone.
use Rattle.std.specs.Prelude.{◌≡◌, ℕ, List, ◌++◌, false, Some, slice_get}
use Rattle.c_meaning.specs.Memory.{Block}
use Rattle.c_meaning.specs.Values.{Origin, State}

-- a block is one of another state, but that it may be gone there, and its cells may hold other values
pub record IsOutline (b c : Block) : Type 0 where
  pub shape_is : c.shape ≡ b.shape
  pub kind_is : c.kind ≡ b.kind
  pub stays_gone : b.is_live ≡ false → c.is_live ≡ false

-- from one state to another each block stays, and what made it
pub record KeepsOutlines (s t : State) : Type 0 where
  pub structs_are : t.memory.structs ≡ s.memory.structs
  pub each : (n : ℕ) (b : Block) → slice_get s.memory.blocks n ≡ Some b → (c : Block) × (slice_get t.memory.blocks n ≡ Some c) × IsOutline b c
  pub new : List Origin
  pub origins_are : t.origins ≡ s.origins ++ new
