use Rattle.std.proofs.Common.{◌≡◌, ℕ, ◌||◌, drop}
use Rattle.bit_rows.specs.Sets.{has}
use Rattle.projection.specs.Parts.{words_of}
use Rattle.projection.specs.Referring.{arms_refer}
use Rattle.projection.specs.Names.{body_refers}
use Rattle.projection.proofs.referring.+statement.Given as goal

abbrev pub invariant-mark_arms-loop-arm : goal.invariant-mark_arms-loop-arm
invariant-mark_arms-loop-arm l =
    (x : ℕ) → (has l.used.items x || arms_refer (words_of l.parts) (drop l.arm-index l.arms) x) ≡ (has l.initial.used.items x || arms_refer (words_of l.parts) l.arms x)

abbrev pub invariant-mark_statements-loop-statement : goal.invariant-mark_statements-loop-statement
invariant-mark_statements-loop-statement l =
    (x : ℕ) → (has l.used.items x || body_refers (words_of l.parts) (drop l.statement-index l.list) x) ≡ (has l.initial.used.items x || body_refers (words_of l.parts) l.list x)
