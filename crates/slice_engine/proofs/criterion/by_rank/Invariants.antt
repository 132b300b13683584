use Rattle.std.proofs.Common.{◌≡◌}
use Rattle.bit_rows.specs.Sets.{has}
use Rattle.slice_engine.specs.Criterion as spec
use Rattle.slice_engine.proofs.criterion.by_rank.Given as goal

abbrev pub invariant-loop-id : goal.invariant-loop-id
invariant-loop-id l = l.chosen.items ≡ spec.by_rank (has l.kept) (has l.tests) l.id
