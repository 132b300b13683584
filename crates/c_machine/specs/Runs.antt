-- Where a run stands, as a point of the meaning's small steps.
use Rattle.std.specs.Prelude.{◌≡◌, ◌⊎◌, ℕ, ℤ, ◌+◌, List, [], ◌∷◌, Option, Some, None}
use Rattle.c_tree.specs.declared.program.Program.{Program}
use Rattle.c_tree.specs.declared.expr.Expr.{Expr}
use Rattle.c_tree.specs.declared.statement.Target.{Target}
use Rattle.c_tree.specs.declared.statement.Target.TheVariants as target
use Rattle.c_language.specs.Code.{Tests}
use Rattle.c_meaning.specs.declared.value.Value.{Value}
use Rattle.c_meaning.specs.Acts.{Made, made, after, picked}
use Rattle.c_meaning.specs.Activations.{executable, types_in, opening, received}
use Rattle.c_meaning.specs.Meaning.{Trace, Answer, told, meaning}
use Rattle.c_meaning.specs.Steps.{Stops, Fails, Acts, Breaks, Runs, Waiting, Point, machine, step}
use Rattle.c_meaning.specs.Values.{State}
use Rattle.c_memory.specs.Scenes.{frame_of}
use Rattle.c_machine.specs.declared.runs.Caller.{Caller}
use Rattle.c_machine.specs.declared.runs.Run.{Run}
use Rattle.c_machine.specs.declared.runs.Turn.{Turn}
use Rattle.c_machine.specs.declared.runs.Turn.TheVariants as turn
use Rattle.c_machine.specs.Rests.{left_code, IsAct}
use Rattle.c_machine.specs.States.{IsState}
use Rattle.c_machine.specs.Traces.{Before, IsTold}

-- ---- points

abbrev pub waiting_of : Caller → Waiting
waiting_of c = record {
  call = c.call;
  target = c.target.now;
  function = c.function;
  rest = left_code c.left.items;
  frame = frame_of c.frame.items;
  returned = c.returned;
}

-- callers before others; the last one comes first
abbrev pub callers_before : List Caller → List Waiting → List Waiting
callers_before [] ws = ws
callers_before (c ∷ cs) ws = callers_before cs (waiting_of c ∷ ws)

-- a run of a program stands at a point, with this told before
pub record IsAt (p : Program) (before : Before) (r : Run) (x : Point) : Type 0 where
  pub program : r.program.now ≡ p
  pub globals : frame_of r.globals.items ≡ (opening (executable p) []).frame
  pub function : r.function ≡ x.function
  pub rest : left_code r.left.items ≡ x.rest
  pub state : IsState r.state x.state
  pub callers : callers_before r.callers.items [] ≡ x.callers
  pub trace : IsTold before r.trace x.trace

-- a run of a program has told what a trace has
pub record IsHeard (p : Program) (before : Before) (r : Run) (t : Trace) : Type 0 where
  pub program : r.program.now ≡ p
  pub trace : IsTold before r.trace t

-- a run stands at some point that a condition holds of
abbrev pub StandsAt : Program → Before → Run → (Point → Type 0) → Type 0
StandsAt p before r P = (x : Point) × (P x × IsAt p before r x)

-- parameters have begun, and a condition holds of the state
abbrev pub PassedOn : Program → Before → Run → Point → (State → Type 0) → Type 0
PassedOn p before r x P = (s : State) × (IsAt p before r (record x { state = s }) × P s)

-- ---- acts

-- what a run that has acted says of the step: an act, or an undefined one of this statement, with nothing told
abbrev pub Acted : Program → Before → Option ℕ → Run → Point → Type 0
Acted p before None r x = StandsAt p before r (λ y. step (executable p) x ≡ Acts y)
Acted p before (Some i) r x = (step (executable p) x ≡ Fails i) × IsHeard p before r x.trace

-- a test that gave this value, or was undefined
abbrev pub Tested : Program → Before → ℕ → Expr → Option ℤ → Run → Point → Type 0
Tested p before i e None r x = (made (types_in (executable p) x.function) (Tests e) x.state ≡ None) × IsHeard p before r x.trace
Tested p before i e (Some v) r x =
    (m : Made)
    × ((made (types_in (executable p) x.function) (Tests e) x.state ≡ Some m) × (picked m ≡ v))
    × IsAt p before r (record x { state = after i m x.state; trace = told i m x.trace })

-- ---- what comes before the next act

-- all that the first point comes to, the second comes to
abbrev pub Leads : Program → Point → Point → Type 0
Leads p x y = (n : ℕ) (a : Answer) → Runs (machine (executable p)) n x a → Runs (machine (executable p)) n y a

-- what a turn says of the point at which a run stands
abbrev pub Rests : Program → Turn → Point → Type 0
Rests p turn.Going y = IsAct y.rest
Rests p turn.Ended y = step (executable p) y ≡ Stops
Rests p (turn.Undefined i) y = step (executable p) y ≡ Breaks i

-- where the run goes on it stands there
abbrev pub IsThere : Program → Before → Turn → Run → Point → Type 0
IsThere p before turn.Going r y = IsAt p before r y
IsThere p before turn.Ended r y = IsHeard p before r y.trace
IsThere p before (turn.Undefined i) r y = IsHeard p before r y.trace

-- nothing is to be done before the next act, or the run is over
abbrev pub Settled : Program → Before → Turn → Run → Point → Type 0
Settled p before t r x = (y : Point) × (Leads p x y × (Rests p t y × IsThere p before t r y))

-- one piece was done, or there was none
abbrev pub GoneOn : Program → Before → Option Turn → Run → Point → Type 0
GoneOn p before None r x = StandsAt p before r (λ y. Leads p x y)
GoneOn p before (Some t) r x = Settled p before t r x

-- an act with all that comes before the next one: it was done and the run settled, or it is undefined, with nothing told
abbrev pub Turned : Program → Before → Turn → Run → Point → Type 0
Turned p before t r x =
    ((y : Point) × ((step (executable p) x ≡ Acts y) × Settled p before t r y))
    ⊎ ((i : ℕ) × ((t ≡ turn.Undefined i) × ((step (executable p) x ≡ Fails i) × IsHeard p before r x.trace)))

-- ---- the meaning

-- what is left to do comes to the meaning, after so many acts
abbrev pub IsAhead : Program → List ℕ → ℕ → Point → Type 0
IsAhead p input k x = (n : ℕ) → Runs (machine (executable p)) n x (meaning (k + n) p input)

-- ---- returns

-- a result was stored by what the target made of it, or that was undefined
abbrev pub Stored : Program → Before → ℕ → Option Made → Option Turn → Run → Point → Type 0
Stored p before i (Some m) None r x = IsAt p before r (record x { state = after i m x.state; trace = told i m x.trace })
Stored p before i None (Some t) r x = (t ≡ turn.Undefined i) × IsHeard p before r x.trace
Stored p before i (Some m) (Some t) r x = ⊥
Stored p before i None None r x = ⊥

abbrev pub Received : Program → Before → ℕ → Target → Option Value → Option Turn → Run → Point → Type 0
Received p before i target.None v o r x = (o ≡ None) × IsAt p before r x
Received p before i (target.Place e) v o r x =
    Stored p before i (received (types_in (executable p) x.function) (target.Place e) v x.state) o r x
Received p before i (target.Declared y) v o r x =
    Stored p before i (received (types_in (executable p) x.function) (target.Declared y) v x.state) o r x
