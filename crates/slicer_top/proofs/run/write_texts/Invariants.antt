use Rattle.std.proofs.Common.{◌≡◌, length, take, drop}
use Rattle.edge_io.specs.Count.{NeverFalls}
use Rattle.edge_io.specs.Written.{Gains}
use Rattle.slicer_top.specs.Slices.{joined}
use Rattle.slicer_top.proofs.run.write_texts.Given as goal

abbrev pub invariant-loop-text : goal.invariant-loop-text
invariant-loop-text g l = record {
  gained : Gains (g.O.Sink.written l.initial.out) (g.O.Sink.written l.out) (joined (take l.text-index l.texts));
  faults : NeverFalls (g.O.Sink.faults l.initial.out) (g.O.Sink.faults l.out);
  taken : g.O.Sink.takes l.initial.out (length (joined l.texts)) → g.O.Sink.takes l.out (length (joined (drop l.text-index l.texts))) × (g.O.Sink.faults l.out ≡ g.O.Sink.faults l.initial.out);
  err : l.err ≡ l.initial.err;
}
