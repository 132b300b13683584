use Rattle.std.proofs.Common.{◌≡◌, drop}
use Rattle.std.specs.List.{find}
use Rattle.std.specs.Str.{bytes_eq}
use Rattle.call_words.specs.declared.grammar.OptionForm.{OptionForm}
use Rattle.call_words.proofs.deciding.kind_of.Given as goal

abbrev pub invariant-loop-option : goal.invariant-loop-option
invariant-loop-option l =
    find (λ (o : OptionForm). bytes_eq o.name.now l.name) (drop l.option-index l.form.options.now) ≡ find (λ (o : OptionForm). bytes_eq o.name.now l.name) l.form.options.now
