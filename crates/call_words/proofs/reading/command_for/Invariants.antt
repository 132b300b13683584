use Rattle.std.proofs.Common.{◌≡◌, ◌∷◌, map, take}
use Rattle.clap.specs.Words.{app_of}
use Rattle.call_words.specs.Clap.{words_rule, option_rule, with_rules}
use Rattle.call_words.specs.declared.grammar.OptionForm.{OptionForm}
use Rattle.call_words.proofs.reading.command_for.Given as goal

abbrev pub invariant-loop-option : goal.invariant-loop-option
invariant-loop-option l = app_of l.command ≡ with_rules l.form.name.now (words_rule ∷ map (λ (o : OptionForm). option_rule o.name.now) (take l.option-index l.form.options.now))
