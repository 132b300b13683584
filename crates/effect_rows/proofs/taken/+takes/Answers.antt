-- What is taken is marked form by form.
use Rattle.dep_model.specs.Designated.{designated, value_takes}
use Rattle.effect_rows.proofs.MarkLemmas.{adds_both, adds_three, takes_Index, takes_Binary, takes_AndAlso, takes_OrElse, takes_Choose}
use Rattle.effect_rows.proofs.taken.+takes.Goals as goal

pub mark_found-returns-in_ok-mark_value-in-Binary-2 : goal.mark_found-returns-in_ok-mark_value-in-Binary-2
mark_found-returns-in_ok-mark_value-in-Binary-2 t c =
    let p = c.args.p.now in
    adds_both c.args.taken.now.items c.mark_value-in-Binary.new.taken.items c.mark_value-in-Binary-2.new.taken.items
    (value_takes (designated p c.get-in-Binary.result.now)) (value_takes (designated p c.get-in-Binary-2.result.now)) (designated p c.args.e.now).takes
    c.in_ok-mark_value-in-Binary.ensures c.in_ok-mark_value-in-Binary-2.ensures
    (λ x. rw (c.get-in-Binary.ensures, c.get-in-Binary-2.ensures) (takes_Binary p c.args.e.now _ _ _ c.in-Binary.is x))

pub mark_found-returns-in_ok-mark_value-in-AndAlso-2 : goal.mark_found-returns-in_ok-mark_value-in-AndAlso-2
mark_found-returns-in_ok-mark_value-in-AndAlso-2 t c =
    let p = c.args.p.now in
    adds_both c.args.taken.now.items c.mark_value-in-AndAlso.new.taken.items c.mark_value-in-AndAlso-2.new.taken.items
    (value_takes (designated p c.get-in-AndAlso.result.now)) (value_takes (designated p c.get-in-AndAlso-2.result.now)) (designated p c.args.e.now).takes
    c.in_ok-mark_value-in-AndAlso.ensures c.in_ok-mark_value-in-AndAlso-2.ensures
    (λ x. rw (c.get-in-AndAlso.ensures, c.get-in-AndAlso-2.ensures) (takes_AndAlso p c.args.e.now _ _ c.in-AndAlso.is x))

pub mark_found-returns-in_ok-mark_value-in-OrElse-2 : goal.mark_found-returns-in_ok-mark_value-in-OrElse-2
mark_found-returns-in_ok-mark_value-in-OrElse-2 t c =
    let p = c.args.p.now in
    adds_both c.args.taken.now.items c.mark_value-in-OrElse.new.taken.items c.mark_value-in-OrElse-2.new.taken.items
    (value_takes (designated p c.get-in-OrElse.result.now)) (value_takes (designated p c.get-in-OrElse-2.result.now)) (designated p c.args.e.now).takes
    c.in_ok-mark_value-in-OrElse.ensures c.in_ok-mark_value-in-OrElse-2.ensures
    (λ x. rw (c.get-in-OrElse.ensures, c.get-in-OrElse-2.ensures) (takes_OrElse p c.args.e.now _ _ c.in-OrElse.is x))

pub mark_found-returns-in_ok-mark_value-in-Choose-3 : goal.mark_found-returns-in_ok-mark_value-in-Choose-3
mark_found-returns-in_ok-mark_value-in-Choose-3 t c =
    let p = c.args.p.now in
    adds_three c.args.taken.now.items c.mark_value-in-Choose.new.taken.items c.mark_value-in-Choose-2.new.taken.items c.mark_value-in-Choose-3.new.taken.items
    (value_takes (designated p c.get-in-Choose.result.now)) (value_takes (designated p c.get-in-Choose-2.result.now)) (value_takes (designated p c.get-in-Choose-3.result.now)) (designated p c.args.e.now).takes
    c.in_ok-mark_value-in-Choose.ensures c.in_ok-mark_value-in-Choose-2.ensures c.in_ok-mark_value-in-Choose-3.ensures
    (λ x. rw (c.get-in-Choose.ensures, c.get-in-Choose-2.ensures, c.get-in-Choose-3.ensures) (takes_Choose p c.args.e.now _ _ _ c.in-Choose.is x))

pub mark_found-returns-in_ok-mark_value-in-Index : goal.mark_found-returns-in_ok-mark_value-in-Index
mark_found-returns-in_ok-mark_value-in-Index t c =
    let p = c.args.p.now in
    adds_both c.args.taken.now.items c.mark_found-in-Index.new.taken.items c.mark_value-in-Index.new.taken.items
    (designated p c.get-in-Index.result.now).takes (value_takes (designated p c.get-in-Index-2.result.now)) (designated p c.args.e.now).takes
    c.in_ok-mark_found-in-Index.ensures c.in_ok-mark_value-in-Index.ensures
    (λ x. rw (c.get-in-Index.ensures, c.get-in-Index-2.ensures) (takes_Index p c.args.e.now _ _ c.in-Index.is x))
