use Rattle.std.proofs.Common.{◌-◌, arith, rules}
use Rattle.std.proofs.lemmas.Grind.{common_steps}
use Rattle.c_parse_expr.specs.ExprReading.{climb, nested}
use Rattle.c_parse_expr.proofs.ExprSound.{nested_sound}
use Rattle.c_parse_expr.proofs.expr.+expression.Goals as goal
use Rattle.c_language.proofs.Turns.{one_more, no_more, deeper}

pub signed-applied-requires : goal.signed-applied-requires
signed-applied-requires t c = omega (arith, (nested_sound c.args.depth _ _ c.in_ok-operand.operand _ (omega arith) (omega arith) c.in_ok-operand.ensures).low)

pub converted-cast-requires : goal.converted-cast-requires
converted-cast-requires t c = omega (arith, (nested_sound c.args.depth _ _ c.in_ok-operand.operand _ (omega arith) (omega arith) c.in_ok-operand.ensures).low)

pub parenthesized-paren-requires : goal.parenthesized-paren-requires
parenthesized-paren-requires t c = omega (arith, (nested_sound c.args.depth _ _ c.in_ok-inner.inner _ (omega arith) (omega arith) c.in_ok-inner.ensures).low)

pub with_index-index-requires : goal.with_index-index-requires
with_index-index-requires t c = omega (arith, (nested_sound c.args.depth _ _ c.in_ok-at.at _ (omega arith) (omega arith) c.in_ok-at.ensures).low)

pub with_operand-joint-requires : goal.with_operand-joint-requires
with_operand-joint-requires t c = omega (arith, (nested_sound c.args.depth _ _ c.in_ok-right.right _ (omega arith) (omega (arith, c.level.ensures.small)) c.in_ok-right.ensures).low)

pub with_choice-choice-requires : goal.with_choice-choice-requires
with_choice-choice-requires t c = omega (
  arith,
  (nested_sound c.args.depth _ _ c.in_ok-yes.yes _ (omega arith) (omega arith) c.in_ok-yes.ensures).low,
  (nested_sound c.args.depth _ _ c.in_ok-no.no _ (omega arith) (omega arith) c.in_ok-no.ensures).low,
)

pub nested-returns-in_default : goal.nested-returns-in_default
unfolding climb nested
nested-returns-in_default t c =
    let d = deeper (λ n. nested n c.args.least c.args.tokens.now) c.args.depth (omega arith) in
    let e = one_more (λ n. climb (nested (c.args.depth - 1)) (c.args.depth - 1) c.args.least n c.loop-turn.left c.loop-turn.tokens) _ c.loop-turn._turn c.loop-turn-test.true c.loop-turn.invariant in
    first_of (search rules, grind (arith, common_steps))

pub nested-returns-in_err-left-2 : goal.nested-returns-in_err-left-2
unfolding climb nested
nested-returns-in_err-left-2 t c =
    let d = deeper (λ n. nested n c.args.least c.args.tokens.now) c.args.depth (omega arith) in
    let e = one_more (λ n. climb (nested (c.args.depth - 1)) (c.args.depth - 1) c.args.least n c.loop-turn.left c.loop-turn.tokens) _ c.loop-turn._turn c.loop-turn-test.true c.loop-turn.invariant in
    first_of (search rules, grind (arith, common_steps))

pub nested-loop-turn-preserved : goal.nested-loop-turn-preserved
unfolding climb
nested-loop-turn-preserved t c =
    let e = one_more (λ n. climb (nested (c.args.depth - 1)) (c.args.depth - 1) c.args.least n c.loop-turn.left c.loop-turn.tokens) _ c.loop-turn._turn c.loop-turn-test.true c.loop-turn.invariant in
    first_of (search rules, grind (arith, common_steps))

pub nested-returns : goal.nested-returns
unfolding climb nested
nested-returns t c =
    let d = deeper (λ n. nested n c.args.least c.args.tokens.now) c.args.depth (omega arith) in
    let e = no_more (λ n. climb (nested (c.args.depth - 1)) (c.args.depth - 1) c.args.least n c.loop-turn.left c.loop-turn.tokens) _ c.loop-turn._turn c.loop-turn-test.false c.loop-turn.invariant in
    first_of (search rules, grind (arith, common_steps))
