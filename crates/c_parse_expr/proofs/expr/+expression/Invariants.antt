use Rattle.std.proofs.Common.{◌≡◌, ◌+◌, ◌*◌, ◌-◌}
use Rattle.c_parse_expr.specs.ExprReading.{expression, climb, nested}
use Rattle.c_parse_expr.proofs.expr.+expression.Given as goal

abbrev pub decreases-nested : goal.decreases-nested
decreases-nested l = 4 * l.depth

abbrev pub decreases-prefix : goal.decreases-prefix
decreases-prefix l = 4 * l.depth + 2

abbrev pub decreases-parenthesized : goal.decreases-parenthesized
decreases-parenthesized l = 4 * l.depth + 1

abbrev pub decreases-converted : goal.decreases-converted
decreases-converted l = 4 * l.depth + 1

abbrev pub decreases-signed : goal.decreases-signed
decreases-signed l = 4 * l.depth + 1

abbrev pub decreases-extended : goal.decreases-extended
decreases-extended l = 4 * l.depth + 2

abbrev pub decreases-with_operand : goal.decreases-with_operand
decreases-with_operand l = 4 * l.depth + 1

abbrev pub decreases-with_choice : goal.decreases-with_choice
decreases-with_choice l = 4 * l.depth + 1

abbrev pub decreases-with_index : goal.decreases-with_index
decreases-with_index l = 4 * l.depth + 1

abbrev pub invariant-nested-loop-turn : goal.invariant-nested-loop-turn
invariant-nested-loop-turn l = expression (l.depth - 1) l.least l.fn.tokens ≡ climb (nested (l.depth - 1)) (l.depth - 1) l.least (l.turns - l._turn) l.left l.tokens
