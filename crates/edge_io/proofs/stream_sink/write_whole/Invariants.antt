use Rattle.edge_io.specs.WriteCalls.{Writes}
use Rattle.edge_io.proofs.Streams.{HasWritten}
use Rattle.edge_io.proofs.stream_sink.write_whole.Given as goal

abbrev pub invariant-loop-call : goal.invariant-loop-call
invariant-loop-call g l = record {
  bytes : HasWritten l.piece l.rest (g.W.Write.contents l.initial.stream) (g.W.Write.contents l.stream);
  calls : Writes g.W.Stream.may_write l.piece l.initial.stream l._call l.rest l.stream;
}
