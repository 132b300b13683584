use Rattle.std.proofs.Common.{◌∙◌, sym}
use Rattle.c_language.specs.Tokens.{number_goes_on}
use Rattle.c_lex.proofs.Loops.{run_stops, run_goes, run_ends}
use Rattle.c_lex.proofs.word.number_len.Goals as goal

pub returns-then-not-number_goes_on-clause-value : goal.returns-then-not-number_goes_on-clause-value
returns-then-not-number_goes_on-clause-value c = sym (run_stops number_goes_on c.loop-i.before c.args.bytes.now c.loop-i.i c.loop-i-test.true (sym c.number_goes_on.ensures ∙ c.if-not-number_goes_on.true) c.loop-i.invariant)

pub loop-i-preserved : goal.loop-i-preserved
loop-i-preserved c = run_goes number_goes_on c.loop-i.before c.args.bytes.now c.loop-i.i c.loop-i-test.true (sym c.number_goes_on.ensures ∙ c.if-not-number_goes_on.false) c.loop-i.invariant

pub returns-clause-value : goal.returns-clause-value
returns-clause-value c = sym (run_ends number_goes_on c.loop-i.before c.args.bytes.now c.loop-i.i c.loop-i-test.false c.loop-i.auto.i-end c.loop-i.invariant)
