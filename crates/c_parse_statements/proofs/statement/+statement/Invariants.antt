use Rattle.std.proofs.Common.{◌≡◌, ◌+◌, ◌*◌, ◌-◌, [], length}
use Rattle.c_parse_statements.specs.StatementReading.{statements, statements_from, arms_from, nested_statement}
use Rattle.c_parse_statements.proofs.statement.+statement.Given as goal

abbrev pub decreases-nested_statement : goal.decreases-nested_statement
decreases-nested_statement l = 10 * l.depth

abbrev pub decreases-statement : goal.decreases-statement
decreases-statement l = 10 * l.depth + 9

abbrev pub decreases-conditional : goal.decreases-conditional
decreases-conditional l = 10 * l.depth + 8

abbrev pub decreases-while_loop : goal.decreases-while_loop
decreases-while_loop l = 10 * l.depth + 8

abbrev pub decreases-do_loop : goal.decreases-do_loop
decreases-do_loop l = 10 * l.depth + 8

abbrev pub decreases-for_loop : goal.decreases-for_loop
decreases-for_loop l = 10 * l.depth + 8

abbrev pub decreases-switch : goal.decreases-switch
decreases-switch l = 10 * l.depth + 8

abbrev pub decreases-arms : goal.decreases-arms
decreases-arms l = 10 * l.depth + 7

abbrev pub decreases-arm : goal.decreases-arm
decreases-arm l = 10 * l.depth + 6

abbrev pub decreases-block : goal.decreases-block
decreases-block l = 10 * l.depth + 8

abbrev pub decreases-alternative : goal.decreases-alternative
decreases-alternative l = 10 * l.depth + 6

abbrev pub decreases-body : goal.decreases-body
decreases-body l = 10 * l.depth + 5

abbrev pub decreases-braced : goal.decreases-braced
decreases-braced l = 10 * l.depth + 4

abbrev pub decreases-statements : goal.decreases-statements
decreases-statements l = 10 * l.depth + 3

abbrev pub decreases-listed : goal.decreases-listed
decreases-listed l = 10 * l.depth + 2

abbrev pub invariant-statements-loop-turn : goal.invariant-statements-loop-turn
invariant-statements-loop-turn l = statements (nested_statement l.depth) l.depth l.fn.tokens ≡ statements_from (nested_statement l.depth) l.depth (l.turns - l._turn) l.found l.tokens

abbrev pub invariant-arms-loop-turn : goal.invariant-arms-loop-turn
invariant-arms-loop-turn l = arms_from (nested_statement l.depth) l.depth (length l.fn.tokens) [] l.fn.tokens ≡ arms_from (nested_statement l.depth) l.depth (l.turns - l._turn) l.found l.tokens
