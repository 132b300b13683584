use Rattle.std.proofs.Common.{arith, rules}
use Rattle.std.proofs.lemmas.Grind.{common_steps}
use Rattle.c_parse_statements.specs.StatementReading.{nested_statement, statements_from, arms_from}
use Rattle.c_parse_statements.proofs.statement.+statement.Goals as goal
use Rattle.c_language.proofs.Turns.{one_more, no_more, deeper}

pub nested_statement-returns : goal.nested_statement-returns
unfolding nested_statement
nested_statement-returns t c = rw (deeper (λ n. nested_statement n c.args.tokens.now) c.args.depth (omega arith)) c.statement.ensures

pub statements-returns-then-is_at_end : goal.statements-returns-then-is_at_end
unfolding statements_from
statements-returns-then-is_at_end t c =
    let e = one_more (λ n. statements_from (nested_statement c.args.depth) c.args.depth n c.loop-turn.found c.loop-turn.tokens) _ c.loop-turn._turn c.loop-turn-test.true c.loop-turn.invariant in
    first_of (search rules, grind (arith, common_steps))

pub statements-returns-in_err-listed : goal.statements-returns-in_err-listed
unfolding statements_from
statements-returns-in_err-listed t c =
    let e = one_more (λ n. statements_from (nested_statement c.args.depth) c.args.depth n c.loop-turn.found c.loop-turn.tokens) _ c.loop-turn._turn c.loop-turn-test.true c.loop-turn.invariant in
    first_of (search rules, grind (arith, common_steps))

pub statements-loop-turn-preserved : goal.statements-loop-turn-preserved
unfolding statements_from
statements-loop-turn-preserved t c =
    let e = one_more (λ n. statements_from (nested_statement c.args.depth) c.args.depth n c.loop-turn.found c.loop-turn.tokens) _ c.loop-turn._turn c.loop-turn-test.true c.loop-turn.invariant in
    first_of (search rules, grind (arith, common_steps))

pub statements-returns : goal.statements-returns
unfolding statements_from
statements-returns t c =
    let e = no_more (λ n. statements_from (nested_statement c.args.depth) c.args.depth n c.loop-turn.found c.loop-turn.tokens) _ c.loop-turn._turn c.loop-turn-test.false c.loop-turn.invariant in
    first_of (search rules, grind (arith, common_steps))

pub arms-returns-in_err-arm : goal.arms-returns-in_err-arm
unfolding arms_from
arms-returns-in_err-arm t c =
    let e = one_more (λ n. arms_from (nested_statement c.args.depth) c.args.depth n c.loop-turn.found c.loop-turn.tokens) _ c.loop-turn._turn c.loop-turn-test.true c.loop-turn.invariant in
    first_of (search rules, grind (arith, common_steps))

pub arms-returns-then-sees : goal.arms-returns-then-sees
unfolding arms_from
arms-returns-then-sees t c =
    let e = one_more (λ n. arms_from (nested_statement c.args.depth) c.args.depth n c.loop-turn.found c.loop-turn.tokens) _ c.loop-turn._turn c.loop-turn-test.true c.loop-turn.invariant in
    first_of (search rules, grind (arith, common_steps))

pub arms-returns-then-not-may_go_on : goal.arms-returns-then-not-may_go_on
unfolding arms_from
arms-returns-then-not-may_go_on t c =
    let e = one_more (λ n. arms_from (nested_statement c.args.depth) c.args.depth n c.loop-turn.found c.loop-turn.tokens) _ c.loop-turn._turn c.loop-turn-test.true c.loop-turn.invariant in
    first_of (search rules, grind (arith, common_steps))

pub arms-loop-turn-preserved : goal.arms-loop-turn-preserved
unfolding arms_from
arms-loop-turn-preserved t c =
    let e = one_more (λ n. arms_from (nested_statement c.args.depth) c.args.depth n c.loop-turn.found c.loop-turn.tokens) _ c.loop-turn._turn c.loop-turn-test.true c.loop-turn.invariant in
    first_of (search rules, grind (arith, common_steps))
