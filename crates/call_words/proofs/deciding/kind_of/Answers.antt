use Rattle.std.proofs.Common.{◌∙◌, sym, ap}
use Rattle.call_words.proofs.Places.{kind_found, first_here}
use Rattle.std.proofs.lemmas.List.{drop_all}
use Rattle.std.specs.List.{find}
use Rattle.std.specs.Option.{option_map}
use Rattle.std.specs.Str.{bytes_eq}
use Rattle.call_words.specs.declared.grammar.OptionForm.{OptionForm}
use Rattle.call_words.proofs.deciding.kind_of.Goals as goal

pub returns-then-is_same : goal.returns-then-is_same
returns-then-is_same c =
    ap (option_map (λ (o : OptionForm). o.kind))
    (first_here (λ (o : OptionForm). bytes_eq o.name.now c.args.name.now) c.args.form.now.options.now c.loop-option.option-index _ c.loop-option-test.true
    (sym c.is_same.ensures.test ∙ c.if-is_same.true) c.loop-option.invariant)
    ∙ kind_found c.args.form.now.options.now c.args.name.now

pub returns : goal.returns
returns c =
    ap (option_map (λ (o : OptionForm). o.kind))
    (sym (ap (find (λ (o : OptionForm). bytes_eq o.name.now c.args.name.now)) (drop_all c.loop-option.option-index c.args.form.now.options.now c.loop-option-test.false)) ∙ c.loop-option.invariant)
    ∙ kind_found c.args.form.now.options.now c.args.name.now
