use Rattle.std.proofs.Common.{◌≡◌, ◌+◌}
use Rattle.reaching_defs.proofs.TargetLemmas.{AreTargets}
use Rattle.reaching_defs.proofs.from_vertex.add_targets.Given as goal

abbrev pub invariant-loop-bit : goal.invariant-loop-bit
invariant-loop-bit l = record {
  wide : l.reached.bound ≡ l.next.stretch.size;
  size : l.targets.bound ≡ l.next.stretch.size;
  exact : AreTargets l.next.stretch.first l.first (l.first + l.bit) l.s l.next.pairs.items l.v l.fn.targets.members l.targets.members;
}
