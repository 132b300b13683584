use Rattle.std.proofs.Common.{◌≡◌, ◌+◌}
use Rattle.reaching_defs.proofs.SearchLemmas.{IsVisiting}
use Rattle.reaching_defs.proofs.search.visit.Given as goal

abbrev pub invariant-loop-cursor : goal.invariant-loop-cursor
invariant-loop-cursor l = record {
  size : l.reached.bound ≡ l.next.stretch.size;
  visiting : IsVisiting l.next.stretch.first l.next.pairs.items (l.next.stretch.first + l.u) l.fn.reached.members l.cursor l.reached.members;
}

abbrev pub decreases-loop-cursor : goal.decreases-loop-cursor
decreases-loop-cursor l = l.cursor
