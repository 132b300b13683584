use Rattle.std.proofs.Common.{rules}
use Rattle.clap.specs.Words.{app_of, rule_of}
use Rattle.call_words.proofs.Commands.{option_added, all_added}
use Rattle.call_words.proofs.reading.command_for.Goals as goal

pub loop-option-preserved : goal.loop-option-preserved
loop-option-preserved c =
    option_added c.args.form.now.name.now c.args.form.now.options.now c.loop-option.option-index (app_of c.loop-option.command) (app_of c.in_ok-command-2.command) (rule_of c.long-argument.result) c.loop-option-test.true
    (c.in_ok-command-2.ensures.shape (search rules)) (search rules) c.loop-option.invariant

pub returns : goal.returns
returns c = all_added c.args.form.now.name.now c.args.form.now.options.now c.loop-option.option-index _ c.loop-option-test.false c.loop-option.invariant
