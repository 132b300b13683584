-- What comes of putting texts on out.
use Rattle.std.specs.Prelude.{◌≡◌, ◌⊎◌, List, length}
use Rattle.edge_io.specs.Count.{Rose}
use Rattle.edge_io.specs.Written.{Gains}
use Rattle.c_language.specs.Words.{Bytes}
use Rattle.slicer_top.specs.Lines.{PutOrCutOff, cannot_write}
use Rattle.slicer_top.specs.Seen.{SinkSeen}
use Rattle.slicer_top.specs.Slices.{GainsUpTo, joined}
use Rattle.slicer_top.specs.declared.status.Status.{Status}
use Rattle.slicer_top.specs.declared.status.Status.TheVariants.{Done, WriteFault}

-- out has gained the texts whole
pub record WroteAll (texts : List Bytes) (out err : SinkSeen) (answer : Status) : Type 0 where
  pub is : answer ≡ Done
  pub gained : Gains out.written out.written' (joined texts)
  pub silent : err.stays

-- a put failed: out has gained the texts before it and a front of that one
pub record WroteFront (texts : List Bytes) (out err : SinkSeen) (answer : Status) : Type 0 where
  pub is : answer ≡ WriteFault
  pub rose : Rose out.faults out.faults'
  pub front : GainsUpTo out.written out.written' texts
  pub told : PutOrCutOff err.faults err.faults' err.written err.written' cannot_write

-- the counts of faults stayed
pub record Calm (out err : SinkSeen) (answer : Status) : Type 0 where
  pub is : answer ≡ Done
  pub out_stays : out.faults' ≡ out.faults
  pub err_stays : err.faults' ≡ err.faults

pub record Wrote (texts : List Bytes) (out err : SinkSeen) (answer : Status) : Type 0 where
  pub ends : WroteAll texts out err answer ⊎ WroteFront texts out err answer
  -- where out takes the texts, no fault comes
  pub taken : out.takes (length (joined texts)) → Calm out err answer
