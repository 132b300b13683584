use Rattle.std.proofs.Common.{◌≡◌, ◌*◌, ◌-◌, [], length}
use Rattle.bit_rows.specs.Tables.{count_all}
use Rattle.reaching_defs.specs.Arrivals.{IsSearching}
use Rattle.reaching_defs.proofs.row_search.spread.Given as goal

abbrev pub invariant-loop : goal.invariant-loop
invariant-loop l = record {
  passed : length l.passed ≡ length l.d.held.items;
  turn : l.turn ≡ record { bound = l.next.stretch.size; members = [] };
  searching : IsSearching l.next l.killed l.d l.arrivals;
  bits : l.arrivals.rows.bits ≡ l.fn.arrivals.rows.bits;
}

abbrev pub decreases-loop : goal.decreases-loop
decreases-loop l = l.next.stretch.size * l.arrivals.rows.bits - count_all l.arrivals.rows
