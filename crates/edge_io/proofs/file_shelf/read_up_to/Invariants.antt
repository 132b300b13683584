use Rattle.edge_io.specs.ReadCalls.{Reads}
use Rattle.edge_io.proofs.Streams.{HasRead}
use Rattle.edge_io.proofs.file_shelf.read_up_to.Given as goal

abbrev pub invariant-loop-call : goal.invariant-loop-call
invariant-loop-call g l = record {
  bytes : HasRead l.limit (g.S.Read.remaining l.initial.source) (g.S.Read.remaining l.source) l.bytes.items;
  calls : Reads g.S.Source.may_read l.initial.source l._call l.bytes.items l.source;
}
