use Rattle.std.proofs.Common.{◌≡◌}
use Rattle.reaching_defs.proofs.HeldLemmas.{IsTaken}
use Rattle.reaching_defs.proofs.definition.Definition.take.Given as goal

abbrev pub invariant-loop-at : goal.invariant-loop-at
invariant-loop-at l = record {
  vertex : l.self.vertex ≡ l.vertex;
  taken : IsTaken l.row l.at l.self.held.items l.self.words.items;
}
