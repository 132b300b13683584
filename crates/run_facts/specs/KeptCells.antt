-- What a step of a run leaves as it was: the cells into which nothing is stored, and the input that isn't taken.
use Rattle.std.specs.Prelude.{◌≡◌, ◌⊎◌, ℕ, ◌<◌, List, [], ◌∷◌, length, true, false, Option, Some, Contains, slice_get}
use Rattle.c_language.specs.Code.{Tests, Code, End, Opens, Plain, Fork, Loop, Leaves, Call}
use Rattle.c_meaning.specs.declared.value.Place.{Place}
use Rattle.c_meaning.specs.Cells.{cell_number}
use Rattle.c_meaning.specs.Memory.{Block, Memory, read, is_cell}
use Rattle.c_meaning.specs.Values.{State}
use Rattle.c_meaning.specs.Activations.{Executable}
use Rattle.c_meaning.specs.Steps.{Acts, Moves, Waiting, Point, step}
use Rattle.dep_model.specs.Doings.{Does, Calls}
use Rattle.run_facts.specs.Effects.{Touch, Effect, no_effect, doing_effect, receipt_effect}

-- two places are one cell: they lie in one block, and have one number in it
pub record IsSameCell (m : Memory) (q r : Place) : Type 0 where
  pub block_is : q.block ≡ r.block
  pub numbers_are : (b : Block) → slice_get m.blocks q.block ≡ Some b → cell_number m.structs q.path b.shape ≡ cell_number m.structs r.path b.shape

-- from one state to the next, a cell of a block that was there before is live after only where it was live, and holds then what it held
-- where nothing is stored into it; and the input is what it was, where it isn't taken from
pub record KeepsRest (s t : State) (e : Effect) : Type 0 where
  pub live : (q : Place) → q.block < length s.memory.blocks → is_cell t.memory q ≡ true → is_cell s.memory q ≡ true
  pub cells :
      (q : Place) → q.block < length s.memory.blocks → is_cell t.memory q ≡ true
      → ((w : Touch) → Contains e.stores w → IsSameCell s.memory w.cell q → ⊥) → read t.memory q ≡ read s.memory q
  pub input : e.takes ≡ false → t.unread ≡ s.unread

module _ (p : Executable) where
  -- the effect of what is done next in a state, where these callers wait: that of a statement, or of the store after a call; to begin
  -- a variable, or to leave a block, has none
  abbrev pub effect_at : ℕ → Code → State → List Waiting → Option Effect
  effect_at f End s [] = Some no_effect
  effect_at f End s (w ∷ ws) = receipt_effect p f w s
  effect_at f (Opens x r) s ws = Some no_effect
  effect_at f (Plain i a r) s ws = doing_effect p f (Does i a) s
  effect_at f (Fork i e c r) s ws = doing_effect p f (Does i (Tests e)) s
  effect_at f (Loop i e b r) s ws = doing_effect p f (Does i (Tests e)) s
  effect_at f (Leaves xs r) s ws = Some no_effect
  effect_at f (Call i to g args r) s ws = doing_effect p f (Calls i to g args) s

  abbrev pub step_effect : Point → Option Effect
  step_effect x = effect_at x.function x.rest x.state x.callers

  -- a step from x leads to y
  abbrev pub Leads : Point → Point → Type 0
  Leads x y = (step p x ≡ Acts y) ⊎ (step p x ≡ Moves y)
