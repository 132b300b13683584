use Rattle.std.proofs.Common.{◌≡◌, ◌≤◌}
use Rattle.c_types_checks.proofs.PointerLemmas.{stars}
use Rattle.c_types_checks.proofs.text.pointers_to.Given as goal

abbrev pub invariant-loop-star : goal.invariant-loop-star
invariant-loop-star l = (l.layers ≡ stars l._star) × (l._star ≤ l.fn.stars)
