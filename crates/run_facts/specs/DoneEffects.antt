-- What a step of a run does: its cells hold what is stored in them, the input is taken from, and a result is returned.
use Rattle.std.specs.Prelude.{◌≡◌, ℕ, ◌≤◌, List, [], ◌∷◌, ◌++◌, length, drop, true, Option, Some, None, Contains, slice_get}
use Rattle.std.specs.Option.{option_or}
use Rattle.c_language.specs.Code.{Code, End, Opens, Plain, Fork, Loop, Leaves, Call}
use Rattle.c_language.specs.ExprTypes.{is_scalar}
use Rattle.c_meaning.specs.declared.value.Value.{Value}
use Rattle.c_meaning.specs.Memory.{Block, Memory, read, is_cell}
use Rattle.c_meaning.specs.Values.{State}
use Rattle.c_meaning.specs.Steps.{Waiting, Point}
use Rattle.run_facts.specs.Effects.{Touch, Effect}
use Rattle.run_facts.specs.KeptCells.{IsSameCell}

-- something is stored, and nothing into its cell after it
pub record IsLastStore (m : Memory) (ws : List Touch) (w : Touch) : Type 0 where
  pub earlier : List Touch
  pub later : List Touch
  pub stores_are : ws ≡ earlier ++ (w ∷ later)
  pub none_later : (u : Touch) → Contains later u → IsSameCell m u.cell w.cell → ⊥

-- a block that has begun from one state to the next is that of an integer or of a pointer, as those of parameters are
abbrev pub IsScalarIfNew : State → State → ℕ → Type 0
IsScalarIfNew s t n = (b : Block) → length s.memory.blocks ≤ n → slice_get t.memory.blocks n ≡ Some b → is_scalar b.shape ≡ true

-- an effect is done from one state to the next: each cell into which something is stored is live after, and holds what was stored there
-- last; who takes from the input leaves it without its first byte; and what is returned is so, or else the function that runs has what it
-- had
pub record DoesEffect (s t : State) (had : Option Value) (e : Effect) : Type 0 where
  pub live : (w : Touch) → Contains e.stores w → IsScalarIfNew s t w.cell.block → is_cell t.memory w.cell ≡ true
  pub cells : (w : Touch) → IsLastStore t.memory e.stores w → is_cell t.memory w.cell ≡ true → read t.memory w.cell ≡ w.value
  pub input : e.takes ≡ true → t.unread ≡ drop 1 s.unread
  pub returned : t.returned ≡ option_or e.returned had

-- what the function that runs after a step had returned before it: one that begins nothing, a caller that goes on what it had, and any
-- other what it has
abbrev pub returned_at : Code → State → List Waiting → Option Value
returned_at End s [] = s.returned
returned_at End s (w ∷ ws) = w.returned
returned_at (Opens x r) s ws = s.returned
returned_at (Plain i a r) s ws = s.returned
returned_at (Fork i e c r) s ws = s.returned
returned_at (Loop i e b r) s ws = s.returned
returned_at (Leaves xs r) s ws = s.returned
returned_at (Call i to g args r) s ws = None

abbrev pub returned_before : Point → Option Value
returned_before x = returned_at x.rest x.state x.callers
