use Rattle.std.proofs.Common.{◌≡◌, ℕ, ◌||◌, drop}
use Rattle.bit_rows.specs.Sets.{has}
use Rattle.dep_model.specs.DoingEffects.{any_takes}
use Rattle.effect_rows.proofs.taken.mark_all.Given as goal

abbrev pub invariant-loop-e : goal.invariant-loop-e
invariant-loop-e l =
    (x : ℕ) → (has l.taken.items x || any_takes l.p (drop l.e-index l.list) x) ≡ (has l.initial.taken.items x || any_takes l.p l.list x)
