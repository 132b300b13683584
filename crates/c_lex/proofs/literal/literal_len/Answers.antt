use Rattle.std.proofs.Common.{◌+◌, sym, ap, ◌∙◌, option_map}
use Rattle.c_lex.proofs.Loops.{literal_closed, literal_bad, literal_more, literal_end}
use Rattle.c_lex.proofs.literal.literal_len.Goals as goal

pub returns-in-Closed-clause-value : goal.returns-in-Closed-clause-value
returns-in-Closed-clause-value c = sym (literal_closed c.args.bytes.now c.loop-i.i c.loop-i.stage _ c.loop-i-test.true c.stage_after-stage.ensures c.loop-i.invariant c.in-Closed.is)

pub returns-in-Bad-clause-value : goal.returns-in-Bad-clause-value
returns-in-Bad-clause-value c = sym (literal_bad c.args.bytes.now c.loop-i.i c.loop-i.stage _ c.loop-i-test.true c.stage_after-stage.ensures c.loop-i.invariant c.in-Bad.is)

pub loop-i-preserved : goal.loop-i-preserved
loop-i-preserved c = literal_more c.args.bytes.now c.loop-i.i c.loop-i.stage _ c.loop-i-test.true c.stage_after-stage.ensures c.loop-i.invariant c.in_default.not-Closed c.in_default.not-Bad

pub returns-clause-value : goal.returns-clause-value
returns-clause-value c = sym (c.loop-i.invariant ∙ ap (option_map (λ n. c.loop-i.i + n)) (literal_end c.loop-i.stage c.args.bytes.now c.loop-i.i c.loop-i-test.false))
