use Rattle.std.proofs.Common.{inl, inr, refl, subst}
use Rattle.edge_io.specs.Written.{Gains, GainsFront}
use Rattle.slicer_top.proofs.Puts.{fault_told}
use Rattle.lines_top.proofs.run.put.Goals as goal

pub returns-in-Ok : goal.returns-in-Ok
returns-in-Ok g c = inl (record {
  is = refl;
  gained = subst (Gains (g.O.Sink.written c.args.out.now) (g.O.Sink.written c.put.new.self)) c.bytes.ensures c.in-Ok.ensures.ok;
  silent = refl;
})

pub returns-in-Err : goal.returns-in-Err
returns-in-Err g c =
    let told = fault_told _ _ _ _ c.tell.result c.tell.ensures.told in
    inr (record {
      is = told.0;
      rose = c.in-Err.ensures.failed;
      front = subst (GainsFront (g.O.Sink.written c.args.out.now) (g.O.Sink.written c.put.new.self)) c.bytes.ensures c.in-Err.ensures.front;
      told = told.1;
    })
