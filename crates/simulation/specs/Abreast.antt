-- What the law says: the slice does the acts that both share, in the same order, and agrees with its original at the beginning of each of
-- them and at the end; so it gives the same values at the criterion, in no more acts.
use Rattle.std.specs.Prelude.{◌≡◌, ℕ, List, [], ◌∷◌, map, true, option_map}
use Rattle.c_meaning.specs.declared.event.Event.{Event}
use Rattle.c_meaning.specs.Meaning.{Trace, Ended, at}
use Rattle.c_meaning.specs.Steps.{Stops, Acts, Moves, Runs, Waiting, Point, step, machine, beginning}
use Rattle.run_facts.specs.NextSteps.{next_of, next_id}
use Rattle.simulation.specs.Settings.{Calling, Setting, Reached, kept_next}
use Rattle.simulation.specs.Agreeing.{Agreeing}

-- kept calls alone have reached the activation of g for which these wait
abbrev pub KeptCalls : (s : Setting) → ℕ → List Waiting → Type 0
KeptCalls s g [] = Unit {0}
KeptCalls s g (a ∷ ws) = (s.kept (Calling a.function a.call g) ≡ true) × KeptCalls s a.function ws

-- an act of both: of a kept statement in an activation that kept calls alone have reached
pub record IsShared (s : Setting) (x : Point) : Type 0 where
  pub calls : KeptCalls s x.function x.callers
  pub kept : kept_next s x.function (next_of x.rest) ≡ true

-- the act of the slice is that of the same statement
abbrev pub DoSame : Setting → Point → Point → Type 0
DoSame s x y = next_id (next_of y.rest) ≡ option_map s.statement (next_id (next_of x.rest))

-- two runs go abreast, from x and y to z and u: the slice does each shared act and no other, and they agree before each
pub data Abreast (s : Setting) (z u : Point) : Point → Point → Type 0 where
  there : Abreast s z u z u
  act :
      {x y x1 y1 : Point} → IsShared s x → DoSame s x y → Agreeing s x y → step s.original x ≡ Acts x1 → step s.slice y ≡ Acts y1
      → Abreast s z u x1 y1 → Abreast s z u x y
  act_alone : {x y x1 : Point} → (IsShared s x → ⊥) → step s.original x ≡ Acts x1 → Abreast s z u x1 y → Abreast s z u x y
  move : {x y x1 y1 : Point} → step s.original x ≡ Moves x1 → step s.slice y ≡ Moves y1 → Abreast s z u x1 y1 → Abreast s z u x y
  move_alone : {x y x1 : Point} → step s.original x ≡ Moves x1 → Abreast s z u x1 y → Abreast s z u x y

-- from their beginnings on
abbrev pub AbreastTo : Setting → Point → Point → Type 0
AbreastTo s z u = Abreast s z u (beginning s.original s.input) (beginning s.slice s.input)

-- an event under the name that its statement has in the slice
abbrev pub named : Setting → Event → Event
named s e = record { statement = s.statement e.statement; values = e.values }

-- the slice's events at the criterion are the original's
abbrev pub SameAt : Setting → List Event → List Event → Type 0
SameAt s es fs = at s.ranks fs ≡ map (named s) (at s.criterion es)

-- where the original has come to a point, the slice has come to one too; they agree where a shared act comes next, which is to come next in
-- the slice, and where the original ends, where the slice ends
pub record ComesAlong (s : Setting) (x : Point) : Type 0 where
  pub place : Point
  pub abreast : AbreastTo s x place
  pub values_are : SameAt s x.trace.events place.trace.events
  pub shared : IsShared s x → Agreeing s x place × DoSame s x place
  pub ended : step s.original x ≡ Stops → Agreeing s x place × (step s.slice place ≡ Stops)

-- the original ends within n acts with this trace, and so does the slice, which follows it to there
pub record EndsToo (s : Setting) (n : ℕ) (t : Trace) : Type 0 where
  pub last : Point
  pub place : Point
  pub abreast : AbreastTo s last place
  pub agreeing : Agreeing s last place
  pub stops : step s.original last ≡ Stops
  pub stops_there : step s.slice place ≡ Stops
  pub trace_is : last.trace ≡ t
  pub ends : Runs (machine s.slice) n (beginning s.slice s.input) (Ended place.trace)
  pub values_are : SameAt s t.events place.trace.events

-- on each run of the original, up to each of its points, and to its end
pub record SliceFollows (s : Setting) : Type 0 where
  pub along : (x : Point) → Reached s x → ComesAlong s x
  pub to_end : (n : ℕ) (t : Trace) → Runs (machine s.original) n (beginning s.original s.input) (Ended t) → EndsToo s n t
