use Rattle.std.proofs.Common.{◌≡◌, length}
use Rattle.reaching_defs.proofs.RowSearchLemmas.{IsTurning}
use Rattle.reaching_defs.proofs.row_search.go_on.Given as goal

abbrev pub invariant-loop-u : goal.invariant-loop-u
invariant-loop-u l = record {
  passed : length l.passed ≡ length l.d.held.items;
  turning : IsTurning l.next l.killed l.d l.visited (record { rows = l.fn.arrivals.rows; reached = l.fn.arrivals.reached; grown = l.fn.turn }) l.u-index l.arrivals;
}
