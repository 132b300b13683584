use Rattle.c_language.specs.Names.{names}
use Rattle.named_variables.proofs.MarkLemmas.{adds_both, adds_three}
use Rattle.named_variables.proofs.NameForms.{names-Choose, names_two}
use Rattle.named_variables.proofs.+mark_names.Goals as goal

pub returns-in_ok-mark_names-in-Choose-3 : goal.returns-in_ok-mark_names-in-Choose-3
returns-in_ok-mark_names-in-Choose-3 t c =
    adds_three c.args.used.now.items c.mark_names.new.used.items c.mark_names-in-Choose.new.used.items c.mark_names-in-Choose-2.new.used.items
    (names c.get.result.now) (names c.get-in-Choose.result.now) (names c.get-in-Choose-2.result.now) (names c.args.e.now)
    c.in_ok-mark_names-in-Choose.ensures c.in_ok-mark_names-in-Choose-2.ensures c.in_ok-mark_names-in-Choose-3.ensures
    (λ x. rw (c.in-Choose.is, c.get.ensures, c.get-in-Choose.ensures, c.get-in-Choose-2.ensures) (names-Choose _ _ _ x))

pub returns-in_ok-mark_names-in-Binary-2 : goal.returns-in_ok-mark_names-in-Binary-2
returns-in_ok-mark_names-in-Binary-2 t c =
    adds_both c.args.used.now.items c.mark_names-in-Binary.new.used.items c.mark_names-in-Binary-2.new.used.items
    (names c.get-in-Binary.result.now) (names c.get-in-Binary-2.result.now) (names c.args.e.now)
    c.in_ok-mark_names-in-Binary.ensures c.in_ok-mark_names-in-Binary-2.ensures
    (λ x. rw (c.get-in-Binary.ensures, c.get-in-Binary-2.ensures) (names_two _ _ _ c.in-Binary.is x))
