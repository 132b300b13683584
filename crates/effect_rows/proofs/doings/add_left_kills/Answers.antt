-- What is no name, or may be reached otherwise, isn't killed.
use Rattle.std.proofs.Common.{Bool, ◌&&◌, sym, ap, ◌∙◌}
use Rattle.dep_model.specs.Denoted.{Places, expr_places}
use Rattle.dep_model.specs.DoingEffects.{named_kills, left_kills}
use Rattle.effect_rows.specs.Pointed.{points_in}
use Rattle.effect_rows.proofs.ReadLemmas.{none_read}
use Rattle.effect_rows.proofs.doings.add_left_kills.Goals as goal

pub returns-in-None-clause-gained : goal.returns-in-None-clause-gained
returns-in-None-clause-gained c =
    let p = c.args.g.now.program in
    let to = points_in c.args.g.now in
    let e = c.args.e.now in
    none_read p c.args.row c.args.rows.now (left_kills p to e) (ap (λ n. named_kills p to n (expr_places p to e)) (sym (c.name_of.ensures p) ∙ c.in-None.is))

pub returns-else-is_killable-clause-gained : goal.returns-else-is_killable-clause-gained
returns-else-is_killable-clause-gained c =
    let p = c.args.g.now.program in
    let to = points_in c.args.g.now in
    let e = c.args.e.now in
    none_read p c.args.row c.args.rows.now (left_kills p to e)
    (ap (λ n. named_kills p to n (expr_places p to e)) (sym (c.name_of.ensures p) ∙ c.in-Some.is)
    ∙ ap (λ (b : Bool). let a : Places = λ l. b && expr_places p to e l in a) (sym c.is_killable.ensures ∙ c.if-is_killable.false))
