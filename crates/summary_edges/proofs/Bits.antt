-- Words without a bit.
use Rattle.std.proofs.Common.{◌≡◌, ℕ, ◌/◌, ◌%◌, inl, inr, false, get_or, replicate, arith}
use Rattle.std.proofs.lemmas.Bool.{cases_lt}
use Rattle.std.proofs.lemmas.List.{get_or-replicate, length-replicate}
use Rattle.bit_rows.specs.Words.{word_bit}
use Rattle.bit_rows.proofs.WordLemmas.{no_bit, word_bit_past}

pub no_bits : (n i : ℕ) → word_bit (replicate n 0) i ≡ false
no_bits n i = elim (cases_lt (i / 64) n) [
  | inl low ↦ no_bit (get_or (replicate n 0) (i / 64) 0) (i % 64) (get_or-replicate {A = ℕ} n (i / 64) 0 0 low)
  | inr past ↦ word_bit_past (replicate n 0) i (let long = length-replicate {A = ℕ} n 0 in omega (arith, long, past))
]
