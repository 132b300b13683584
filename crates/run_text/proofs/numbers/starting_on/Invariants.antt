use Rattle.std.proofs.Common.{◌≡◌, ◌||◌, ℕ, drop}
use Rattle.bit_rows.specs.Sets.{has}
use Rattle.run_text.specs.Lines.{any_among}
use Rattle.run_text.proofs.numbers.starting_on.Given as goal

abbrev pub invariant-loop-line : goal.invariant-loop-line
invariant-loop-line l =
    (i : ℕ) → (has l.tests.items i || any_among (drop l.line-index l.lines) l.starts.items i) ≡ any_among l.lines l.starts.items i
