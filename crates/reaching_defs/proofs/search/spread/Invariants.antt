use Rattle.std.proofs.Common.{◌≡◌, ◌-◌}
use Rattle.reaching_defs.specs.RowFlow.{row_has}
use Rattle.reaching_defs.proofs.SearchLemmas.{IsSpreading}
use Rattle.reaching_defs.proofs.search.spread.Given as goal

abbrev pub invariant-loop-done : goal.invariant-loop-done
invariant-loop-done l = record {
  size : l.reached.bound ≡ l.next.stretch.size;
  spreading : IsSpreading l.next.stretch.first l.next.pairs.items (row_has l.killed) l.location l.v l.done l.reached.members;
}

abbrev pub decreases-loop-done : goal.decreases-loop-done
decreases-loop-done l = l.next.stretch.size - l.done
