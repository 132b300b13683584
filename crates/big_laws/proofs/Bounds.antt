-- What is drawn for a function is within its bounds.
use Rattle.std.proofs.Common.{ℕ, zero, suc, ◌<◌, ◌≤◌, Option, Some, None, arith}
use Rattle.std.proofs.lemmas.Nat.{mod_below}
use Rattle.big_programs.specs.declared.choices.Call.{Call}
use Rattle.big_programs.specs.declared.choices.Choices.{Choices}
use Rattle.big_programs.specs.Draws.{after_draw, drawn, call_drawn, choices_drawn}

-- a call of one of the first n functions
abbrev pub IsCallWithin : ℕ → Option Call → Type 0
IsCallWithin n None = Unit {0}
IsCallWithin n (Some c) = (0 < c.function) × (c.function ≤ n) × (c.global < 4)

-- what a function does that stands behind n others
pub record IsWithin (n : ℕ) (c : Choices) : Type 0 where
  pub added : c.added < 10
  pub stored : c.stored < 4
  pub call : IsCallWithin n c.call
  pub summed : c.summed < 4

drawn_below : (m x : ℕ) → 0 < m → drawn m x < m
drawn_below m x some = mod_below _ m some

call_within : (n x : ℕ) → IsCallWithin n (call_drawn n x)
call_within zero x = tt
call_within (suc n) x =
    let below = drawn_below (suc n) x (omega arith) in
    (omega arith, omega (arith, below), drawn_below 4 (after_draw x) (omega arith))

pub choices_within : (n x : ℕ) → IsWithin n (choices_drawn n x)
choices_within n x = record {
  added = drawn_below 10 _ (omega arith);
  stored = drawn_below 4 _ (omega arith);
  call = call_within n _;
  summed = drawn_below 4 _ (omega arith);
}
