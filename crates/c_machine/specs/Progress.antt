-- How far a machine has come, and what its answers say of the meaning.
use Rattle.std.specs.Prelude.{◌≡◌, ℕ, ◌+◌, ◌≤◌, List, ◌++◌, Bool, true, false, Option}
use Rattle.c_tree.specs.declared.program.Program.{Program}
use Rattle.c_language.specs.Words.{Bytes}
use Rattle.c_meaning.specs.declared.event.Event.{Event}
use Rattle.c_meaning.specs.Laws.{trace_of}
use Rattle.c_meaning.specs.Meaning.{Answer, Ended, Undefined, More, Trace, meaning}
use Rattle.c_machine.specs.declared.machine.Halt.{Halt}
use Rattle.c_machine.specs.declared.machine.Halt.TheVariants as halt
use Rattle.c_machine.specs.declared.runs.Run.{Run}
use Rattle.c_machine.specs.declared.runs.Turn.{Turn}
use Rattle.c_machine.specs.declared.runs.Turn.TheVariants as turn
use Rattle.c_machine.specs.Rests.{IsAct}
use Rattle.c_machine.specs.Runs.{StandsAt, IsAhead}
use Rattle.c_machine.specs.Traces.{Before, kept_events}

-- a run of a program on an input, the statements that are watched, how many acts were asked for, and whether there was no memory for one
pub record Progress : Type 0 where
  pub program : Program
  pub input : List ℕ
  pub watched : Option (List Bool)
  pub acts : ℕ
  pub failed : Bool

abbrev pub begun : Program → List ℕ → Option (List Bool) → Progress
begun p input watched = record { program = p; input = input; watched = watched; acts = 0; failed = false }

-- what the program means with so many acts more
abbrev pub meant_with : Progress → ℕ → Answer
meant_with m n = meaning (m.acts + n) m.program m.input

abbrev pub after_acts : Progress → ℕ → Progress
after_acts m n = record m { acts = m.acts + n }

abbrev pub turn_of : Answer → Turn
turn_of (Ended t) = turn.Ended
turn_of (Undefined i t) = turn.Undefined i
turn_of (More t) = turn.Going

abbrev pub halt_of : Answer → Halt
halt_of (Ended t) = halt.Ended
halt_of (Undefined i t) = halt.Undefined i
halt_of (More t) = halt.Steps

-- the trace of the acts that were asked for
abbrev pub trace_at : Progress → Trace
trace_at m = trace_of (meaning m.acts m.program m.input)

abbrev pub events_at : Progress → List Event
events_at m = kept_events m.watched (trace_at m)

abbrev pub output_at : Progress → Bytes
output_at m = (trace_at m).output

-- a list begins with another one
abbrev pub BeginsWith : {A : Type 0} → List A → List A → Type 0
BeginsWith {A} front whole = (more : List A) × (whole ≡ front ++ more)

-- the run is as before but for acts, of which there are at most so many more, and there was no memory for one
pub record Failed (n : ℕ) (old new : Progress) : Type 0 where
  pub same : new ≡ record old { acts = new.acts; failed = true }
  pub least : old.acts ≤ new.acts
  pub most : new.acts ≤ old.acts + n

-- what was told of the acts that were asked for
abbrev pub told_at : Progress → Before
told_at m = record { watched = m.watched; events = events_at m; output = output_at m }

-- a run that goes on stands where what is left to do comes to the meaning; one that is over has its answer
abbrev pub IsSound : Before → Progress → Turn → Run → Type 0
IsSound before m turn.Going r = StandsAt m.program before r (λ x. IsAct x.rest × IsAhead m.program m.input m.acts x)
IsSound before m turn.Ended r = turn_of (meaning m.acts m.program m.input) ≡ turn.Ended
IsSound before m (turn.Undefined i) r = turn_of (meaning m.acts m.program m.input) ≡ turn.Undefined i

-- what the fields of a machine are to each other: the events and the output of its acts, what the last one came to, and its run
pub record IsRight (m : Progress) (events : List Event) (output : Bytes) (t : Turn) (r : Run) : Type 0 where
  pub events_are : events ≡ events_at m
  pub output_is : output ≡ output_at m
  pub sound : m.failed ≡ false → IsSound (told_at m) m t r
