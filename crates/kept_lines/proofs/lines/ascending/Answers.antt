use Rattle.std.proofs.Common.{ℕ}
use Rattle.std.proofs.lemmas.List.Filters.{dedup_is}
use Rattle.slice_engine.proofs.HeaderLines.{sorted_ascend, sorted_same}
use Rattle.kept_lines.proofs.lines.ascending.Goals as goal

pub returns-clause-ascending : goal.returns-clause-ascending
returns-clause-ascending c = sorted_ascend _ _ c.sort_unstable.ensures.sorted (dedup_is _ _ _ c.dedup.ensures.filtered)

pub returns-clause-exact : goal.returns-clause-exact
returns-clause-exact c = λ (k : ℕ). sorted_same _ _ _ _ c.in_ok-found.ensures c.sort_unstable.ensures.permutation (dedup_is _ _ _ c.dedup.ensures.filtered) k
