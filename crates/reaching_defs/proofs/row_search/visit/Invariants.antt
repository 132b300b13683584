use Rattle.std.proofs.Common.{◌+◌}
use Rattle.reaching_defs.proofs.RowSearchLemmas.{IsJoining}
use Rattle.reaching_defs.proofs.row_search.visit.Given as goal

abbrev pub invariant-loop-cursor : goal.invariant-loop-cursor
invariant-loop-cursor l = IsJoining l.next.stretch.first l.next.pairs.items (l.next.stretch.first + l.u) l.words l.fn.arrivals l.cursor l.arrivals

abbrev pub decreases-loop-cursor : goal.decreases-loop-cursor
decreases-loop-cursor l = l.cursor
