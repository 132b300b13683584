use Rattle.std.proofs.Common.{◌≡◌, ◌-◌, [], ◌∷◌, length}
use Rattle.c_parse_expr.specs.TypeReading.{params_from}
use Rattle.c_parse_expr.proofs.params.params_from.Given as goal

abbrev pub invariant-loop-turn : goal.invariant-loop-turn
invariant-loop-turn l = params_from l.depth (length l.fn.tokens) (l.fn.first ∷ []) l.fn.tokens ≡ params_from l.depth (l.turns - l._turn) l.found l.tokens
