use Rattle.std.proofs.Common.{◌≡◌, ℕ, ◌*◌, ◌<◌, true}
use Rattle.bit_rows.specs.Words.{word_bit}
use Rattle.reaching_defs.specs.HeldWords.{location_at}
use Rattle.reaching_defs.proofs.definition.meet.Given as goal

abbrev pub invariant-loop-j : goal.invariant-loop-j
invariant-loop-j l = (t : ℕ) → t < 64 * l.j → word_bit l.words t ≡ true → word_bit l.row (location_at l.held t) ≡ true → ⊥
