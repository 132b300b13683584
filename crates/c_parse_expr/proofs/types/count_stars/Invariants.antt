use Rattle.std.proofs.Common.{◌≡◌, ◌+◌, drop}
use Rattle.c_parse_expr.specs.TypeReading.{star_count}
use Rattle.c_parse_expr.proofs.types.count_stars.Given as goal

abbrev pub invariant-loop-turn : goal.invariant-loop-turn
invariant-loop-turn l = record {
  count : l.stars ≡ l._turn;
  all : star_count l.fn.tokens ≡ l.stars + star_count l.tokens;
  passed : l.tokens ≡ drop l.stars l.fn.tokens;
}
