-- What comes of putting a text on out.
use Rattle.std.specs.Prelude.{◌≡◌, ◌⊎◌}
use Rattle.edge_io.specs.Count.{Rose}
use Rattle.edge_io.specs.Written.{Gains, GainsFront}
use Rattle.c_language.specs.Words.{Bytes}
use Rattle.slicer_top.specs.Lines.{PutOrCutOff, cannot_write}
use Rattle.slicer_top.specs.Seen.{SinkSeen}
use Rattle.slicer_top.specs.declared.status.Status.{Status}
use Rattle.slicer_top.specs.declared.status.Status.TheVariants.{Done, WriteFault}

-- out has gained the text whole
pub record IsWhole (text : Bytes) (out err : SinkSeen) (answer : Status) : Type 0 where
  pub is : answer ≡ Done
  pub gained : Gains out.written out.written' text
  pub silent : err.stays

-- the put failed: out has gained a front of the text, and that was told
pub record IsFront (text : Bytes) (out err : SinkSeen) (answer : Status) : Type 0 where
  pub is : answer ≡ WriteFault
  pub rose : Rose out.faults out.faults'
  pub front : GainsFront out.written out.written' text
  pub told : PutOrCutOff err.faults err.faults' err.written err.written' cannot_write

abbrev pub IsPut : Bytes → SinkSeen → SinkSeen → Status → Type 0
IsPut text out err answer = IsWhole text out err answer ⊎ IsFront text out err answer
