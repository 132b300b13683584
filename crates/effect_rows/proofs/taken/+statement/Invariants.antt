use Rattle.std.proofs.Common.{◌≡◌, ℕ, ◌||◌, drop}
use Rattle.bit_rows.specs.Sets.{has}
use Rattle.effect_rows.specs.Taken.{arms_take, body_takes}
use Rattle.effect_rows.proofs.taken.+statement.Given as goal

abbrev pub invariant-mark_arms-loop-arm : goal.invariant-mark_arms-loop-arm
invariant-mark_arms-loop-arm l =
    (x : ℕ) → (has l.taken.items x || arms_take l.p (drop l.arm-index l.arms) x) ≡ (has l.initial.taken.items x || arms_take l.p l.arms x)

abbrev pub invariant-mark_body-loop-statement : goal.invariant-mark_body-loop-statement
invariant-mark_body-loop-statement l =
    (x : ℕ) → (has l.taken.items x || body_takes l.p (drop l.statement-index l.list) x) ≡ (has l.initial.taken.items x || body_takes l.p l.list x)
