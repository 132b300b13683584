use Rattle.bit_rows.specs.Tables.{IsSized}
use Rattle.reaching_defs.proofs.ArrivalLemmas.{AreLeftRows}
use Rattle.reaching_defs.proofs.arrivals.Arrivals.clear.Given as goal

abbrev pub invariant-loop-w : goal.invariant-loop-w
invariant-loop-w l = record {
  sized : IsSized l.fn.self.reached.bound l.fn.self.rows.bits l.self.1.0;
  left : AreLeftRows l.reached l.w-index l.self.1.0;
}
