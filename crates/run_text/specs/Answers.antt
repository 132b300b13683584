-- What is said of a run: the text of its trace where it has ended, and else why there is none.
use Rattle.std.specs.Prelude.{◌≡◌, ⊤}
use Rattle.c_language.specs.Words.{Bytes}
use Rattle.c_meaning.specs.Meaning.{Trace, Answer, Ended, Undefined, More}
use Rattle.run_text.specs.declared.fault.RunFault.{RunFault}
use Rattle.run_text.specs.declared.fault.RunFault.TheVariants as fault

-- a run has ended
abbrev pub HasEnded : Answer → Type 0
HasEnded a = (t : Trace) × (a ≡ Ended t)

-- a run has ended, and this is the text of its trace
pub record EndsWith (text : Trace → Bytes) (a : Answer) (bytes : Bytes) : Type 0 where
  pub trace : Trace
  pub ended : a ≡ Ended trace
  pub is : bytes ≡ text trace

-- what a run has come to where a fault is told of it; want of memory may be told of any
abbrev pub IsCause : Answer → RunFault → Type 0
IsCause a (fault.Undefined i) = (t : Trace) × (a ≡ Undefined i t)
IsCause a fault.Steps = (t : Trace) × (a ≡ More t)
IsCause a fault.NoMemory = ⊤
