use Rattle.std.proofs.Common.{◌≡◌, ◌||◌, ℕ, drop}
use Rattle.bit_rows.specs.Sets.{has}
use Rattle.slice_engine.specs.Criterion.{starts_among}
use Rattle.slice_engine.proofs.criterion.starting_on.Given as goal

abbrev pub invariant-loop-start : goal.invariant-loop-start
invariant-loop-start l =
    (i : ℕ) → (has l.tests.items i || starts_among l.line (drop l.start-index l.starts) i) ≡ starts_among l.line l.starts i
