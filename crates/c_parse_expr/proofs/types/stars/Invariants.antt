use Rattle.std.proofs.Common.{◌≡◌, ◌+◌, ◌≤◌, ◌-◌}
use Rattle.c_language.specs.Nesting.{type_nesting}
use Rattle.c_parse_expr.specs.TypeReading.{stars}
use Rattle.c_parse_expr.proofs.types.stars.Given as goal

abbrev pub invariant-loop-star : goal.invariant-loop-star
invariant-loop-star l = record {
  same : stars l.limit l.fn.base l.fn.tokens ≡ stars (l.limit - l._star) l.shape l.tokens;
  low : type_nesting l.shape ≤ type_nesting l.fn.base + l._star;
}
