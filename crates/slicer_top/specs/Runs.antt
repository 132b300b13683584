-- What the run of a program comes to, where one is asked for.
use Rattle.std.specs.Prelude.{◌≡◌, ℕ, List, [], Option, None, Some, IfSome, true}
use Rattle.c_tree.specs.declared.program.Program.{Program}
use Rattle.c_language.specs.Words.{Bytes}
use Rattle.c_meaning.specs.Meaning.{Answer, Trace, Undefined, More, meaning}
use Rattle.call_words.specs.Requests.{Asked}
use Rattle.run_text.specs.Answers.{HasEnded}
use Rattle.slice_engine.specs.Slice.{starts_on}
use Rattle.slicer_top.specs.declared.refusal.Refusal.{Refusal}
use Rattle.slicer_top.specs.declared.refusal.Refusal.TheVariants.{Unreadable, TooLong, NoInput, LongInput, Lex, Parse, Check, NoStart, Graph, TooMany, UndefinedAct, MoreSteps, NoMemory}

-- what the run that is asked for comes to, on an input, within the acts that it may have
abbrev pub run_of : Asked → Program → Bytes → Option Answer
run_of (Asked.slice file lines workers) p input = None
run_of (Asked.trace file lines name steps) p input = Some (meaning steps p input)
run_of (Asked.run file name steps) p input = Some (meaning steps p input)
run_of (Asked.graph file workers) p input = None
run_of (Asked.members file line workers) p input = None
run_of (Asked.big seed size workers) p input = None
run_of (Asked.forward file line workers) p input = None
run_of (Asked.chop file from to workers) p input = None

-- the run that is asked for ends
abbrev pub RunEnds : Asked → Program → Bytes → Type 0
RunEnds asked p input = IfSome (run_of asked p input) HasEnded

-- an act of this run is undefined, of this statement
pub record IsUndefined (asked : Asked) (p : Program) (input : Bytes) (statement : ℕ) : Type 0 where
  pub trace : Trace
  pub comes : run_of asked p input ≡ Some (Undefined statement trace)

-- and that statement starts on this line
pub record IsUndefinedAt (asked : Asked) (p : Program) (input : Bytes) (line statement : ℕ) : Type 0 where
  pub act : IsUndefined asked p input statement
  pub starts : starts_on p line statement ≡ true

-- this run needs a further act
pub record NeedsMore (asked : Asked) (p : Program) (input : Bytes) : Type 0 where
  pub trace : Trace
  pub comes : run_of asked p input ≡ Some (More trace)

-- why a run of a program that comes to this answer gives no text
abbrev pub IsRunFault : Program → Answer → Refusal → Type 0
IsRunFault p a (UndefinedAct at statement) = ((t : Trace) × (a ≡ Undefined statement t)) × (starts_on p at statement ≡ true)
IsRunFault p a MoreSteps = (t : Trace) × (a ≡ More t)
IsRunFault p a NoMemory = Unit {0}
IsRunFault p a Unreadable = ⊥
IsRunFault p a TooLong = ⊥
IsRunFault p a NoInput = ⊥
IsRunFault p a LongInput = ⊥
IsRunFault p a (Lex fault) = ⊥
IsRunFault p a (Parse fault) = ⊥
IsRunFault p a (Check fault) = ⊥
IsRunFault p a (NoStart line) = ⊥
IsRunFault p a (Graph name) = ⊥
IsRunFault p a TooMany = ⊥
