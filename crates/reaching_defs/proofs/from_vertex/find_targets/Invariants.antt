use Rattle.std.proofs.Common.{◌≡◌, ◌*◌, []}
use Rattle.reaching_defs.proofs.TargetLemmas.{AreTargets}
use Rattle.reaching_defs.proofs.from_vertex.find_targets.Given as goal

abbrev pub invariant-loop-at : goal.invariant-loop-at
invariant-loop-at l = record {
  wide : l.reached.bound ≡ l.next.stretch.size;
  size : l.targets.bound ≡ l.next.stretch.size;
  exact : AreTargets l.next.stretch.first 0 (64 * l.at) l.s l.next.pairs.items l.v [] l.targets.members;
}
