-- Laws of the meaning: what small steps come to, and what more acts change.
use Rattle.std.specs.Prelude.{◌≡◌, ◌↔◌, ℕ, ◌≤◌, List, ◌++◌, length}
use Rattle.c_tree.specs.declared.program.Program.{Program}
use Rattle.c_language.specs.Words.{Bytes}
use Rattle.c_meaning.specs.declared.event.Event.{Event}
use Rattle.c_meaning.specs.Activations.{executable}
use Rattle.c_meaning.specs.Meaning.{Trace, Answer, Ended, Undefined, More, meaning}
use Rattle.c_meaning.specs.Steps.{Runs, Reaches, Point, machine, beginning}

-- with each number of acts, the meaning of a program is the one answer to which its small steps come
abbrev pub MeaningIsSteps : Type 0
MeaningIsSteps =
    (p : Program) (n : ℕ) (input : List ℕ) (a : Answer)
    → (meaning n p input ≡ a) ↔ Runs (machine (executable p)) n (beginning (executable p) input) a

-- an end, and an undefined act, are the same with each greater number of acts
abbrev pub EndsStay : Type 0
EndsStay =
    (p : Program) (m n : ℕ) (input : List ℕ) (t : Trace) → m ≤ n
    → (meaning m p input ≡ Ended t → meaning n p input ≡ Ended t)
    × ((i : ℕ) → meaning m p input ≡ Undefined i t → meaning n p input ≡ Undefined i t)

abbrev pub trace_of : Answer → Trace
trace_of (Ended t) = t
trace_of (Undefined i t) = t
trace_of (More t) = t

-- the events and the output of a trace are the front of those of another
pub record IsFront (t u : Trace) : Type 0 where
  pub more_events : List Event
  pub more_output : Bytes
  pub events_are : u.events ≡ t.events ++ more_events
  pub output_is : u.output ≡ t.output ++ more_output

-- what was told with fewer acts is the front of what is told with more
abbrev pub TracesGrow : Type 0
TracesGrow =
    (p : Program) (m n : ℕ) (input : List ℕ) → m ≤ n → IsFront (trace_of (meaning m p input)) (trace_of (meaning n p input))

-- wherever a run stands, each block has what made it
abbrev pub BlocksHaveOrigins : Type 0
BlocksHaveOrigins =
    (p : Program) (input : List ℕ) (x : Point)
    → Reaches (machine (executable p)) (beginning (executable p) input) x → length x.state.origins ≡ length x.state.memory.blocks
