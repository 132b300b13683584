use Rattle.std.proofs.Common.{◌≡◌}
use Rattle.effect_tests.proofs.expression_tests.have_rows.Given as goal

abbrev pub invariant-loop-placed : goal.invariant-loop-placed
invariant-loop-placed g l =
    (goal.iterator-loop-placed g).can_next l.placed-iterator ×
    (goal.iterator-loop-placed g).is_finite l.placed-iterator ×
    (l.effects ≡ l.initial.effects)
