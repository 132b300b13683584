use Rattle.std.proofs.Common.{◌≡◌, ◌||◌, ℕ, drop}
use Rattle.bit_rows.specs.Sets.{has}
use Rattle.run_text.specs.Lines.{starts_among}
use Rattle.run_text.proofs.numbers.mark_line.Given as goal

abbrev pub invariant-loop-start : goal.invariant-loop-start
invariant-loop-start l =
    (i : ℕ) → (has l.tests.items i || starts_among l.line (drop l.start-index l.starts) i) ≡ (has l.initial.tests.items i || starts_among l.line l.starts i)
