-- What a call touches of the blocks that were there before it, and what it leaves as it was.
use Rattle.std.specs.Prelude.{◌≡◌, ℕ, ◌<◌, List, [], ◌∷◌, ◌++◌, length, true, Some, All, Contains}
use Rattle.c_tree.specs.declared.expr.Expr.{Expr}
use Rattle.c_tree.specs.declared.program.Program.{Program}
use Rattle.c_tree.specs.declared.statement.Target.{Target}
use Rattle.c_language.specs.Code.{Code, Call}
use Rattle.c_meaning.specs.declared.value.Place.{Place}
use Rattle.c_meaning.specs.Memory.{read, is_cell}
use Rattle.c_meaning.specs.Values.{Origin, State}
use Rattle.c_meaning.specs.Activations.{Executable, executable}
use Rattle.c_meaning.specs.Steps.{Acts, Reaches, Waiting, Point, step, machine}
use Rattle.dep_model.specs.declared.location.Location.{Location}
use Rattle.dep_model.specs.DoingEffects.{the_input}
use Rattle.dep_model.specs.ModRef.{IsCalledFrom, is_outside, Modifies, MayUse}
use Rattle.dep_model.specs.SystemGraph.{Analysis}
use Rattle.run_facts.specs.CellLocations.{location_of}
use Rattle.run_facts.specs.Effects.{Touch, Effect}
use Rattle.run_facts.specs.KeptCells.{step_effect, Leads}
use Rattle.run_facts.specs.Touching.{IsAt}

-- these callers wait at a point, below those of later calls
pub record WaitAt (ws : List Waiting) (x : Point) : Type 0 where
  pub above : List Waiting
  pub callers_are : x.callers ≡ above ++ ws

module _ (p : Executable) where
  -- function g is called at x, and begins at y
  pub record Enters (x y : Point) (g : ℕ) : Type 0 where
    pub call : ℕ
    pub target : Target
    pub args : List Expr
    pub rest : Code
    pub rest_is : x.rest ≡ Call call target g args rest
    pub begins : step p x ≡ Acts y

  -- some steps lead from a point to another while these callers wait: the call for which the first of them waits hasn't returned
  pub data Within (ws : List Waiting) : Point → Point → Type 0 where
    stays : {x : Point} → WaitAt ws x → Within ws x x
    goes_on : {x y z : Point} → WaitAt ws x → Leads p x y → Within ws y z → Within ws x z

-- the function that the caller below these has called, where this function runs
abbrev pub called_below : List Waiting → ℕ → ℕ
called_below [] f = f
called_below (w ∷ above) f = called_below above w.function

-- w, which waits at z below these callers and above others, has made its call at a point of the run, and that hasn't returned
pub record HasCalled (p : Executable) (start : Point) (above ws : List Waiting) (w : Waiting) (z : Point) : Type 0 where
  pub from : Point
  pub begun : Point
  pub reached : Reaches (machine p) start from
  pub enters : Enters p from begun (called_below above z.function)
  pub callers_are : begun.callers ≡ w ∷ ws
  pub within : Within p begun.callers begun z

-- a cell of one of the first so many blocks has a location, which is one of these
abbrev pub IsOldAt : ℕ → List Origin → (Location → Type 0) → Touch → Type 0
IsOldAt before origins these w = w.cell.block < before → IsAt origins these w

module _ (p : Program) (a : Analysis) (g : ℕ) where
  -- of the first so many blocks, an effect reads cells only where g may use them, and stores only where g modifies; who takes from the
  -- input uses and modifies it
  pub record TouchesInCall (before : ℕ) (origins : List Origin) (e : Effect) : Type 0 where
    pub reads_are : All (IsOldAt before origins (MayUse p a.points g)) e.reads
    pub stores_are : All (IsOldAt before origins (Modifies p a.points g)) e.stores
    pub input_is : e.takes ≡ true → MayUse p a.points g the_input × Modifies p a.points g the_input

  -- so does the step from z, in a call of g that was made in this state. Where a location is seen outside the age of a block doesn't
  -- matter: into a block that is there before the step, this one stores only where g modifies the location
  pub record StepInCall (s : State) (z : Point) : Type 0 where
    pub effect : Effect
    pub effect_is : step_effect (executable p) z ≡ Some effect
    pub touches : TouchesInCall (length s.memory.blocks) s.origins effect
    pub outside :
        (w : Touch) → Contains effect.stores w → (l : Location) → location_of z.state.origins w.cell ≡ Some l → is_outside p l ≡ true
        → Modifies p a.points g l

  -- a cell of a block that was there in the first state, and that is live in the second, was live, and holds what it held where g
  -- doesn't modify its location; likewise the input
  pub record KeepsUnmodified (s t : State) : Type 0 where
    pub live : (q : Place) → q.block < length s.memory.blocks → is_cell t.memory q ≡ true → is_cell s.memory q ≡ true
    pub cells :
        (q : Place) (l : Location) → q.block < length s.memory.blocks → is_cell t.memory q ≡ true → location_of s.origins q ≡ Some l
        → (Modifies p a.points g l → ⊥) → read t.memory q ≡ read s.memory q
    pub input : (Modifies p a.points g the_input → ⊥) → t.unread ≡ s.unread

  -- z is a point in a call of g that was made at x and began at y: each step from z that doesn't return from the call touches what g
  -- says, and up to z what g doesn't modify is as it was
  pub record InCall (x y z : Point) : Type 0 where
    pub runs : IsCalledFrom p g z.function
    pub steps_touch : (u : Point) → Leads (executable p) z u → WaitAt y.callers u → StepInCall x.state z
    pub keeps : KeepsUnmodified x.state z.state
