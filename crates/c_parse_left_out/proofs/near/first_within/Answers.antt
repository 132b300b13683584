use Rattle.std.proofs.Common.{arith, sym, ◌∙◌}
use Rattle.c_parse_left_out.proofs.NearLaws.{found_here, found_later, none_within}
use Rattle.c_parse_left_out.proofs.near.first_within.Goals as goal

pub returns-then-begins_at : goal.returns-then-begins_at
returns-then-begins_at c = sym (c.loop-at.invariant ∙ found_here c.args.tokens.now c.loop-at.at c.args.to c.loop-at-test.true (sym c.begins_at.ensures ∙ c.if-begins_at.true))

pub loop-at-preserved : goal.loop-at-preserved
loop-at-preserved c = c.loop-at.invariant ∙ found_later c.args.tokens.now c.loop-at.at c.args.to c.loop-at-test.true (sym c.begins_at.ensures ∙ c.if-begins_at.false)

pub returns : goal.returns
returns c = let over = c.loop-at-test.false in sym (c.loop-at.invariant ∙ none_within c.args.tokens.now c.loop-at.at c.args.to (omega (arith, over)))
