use Rattle.std.proofs.Common.{List, length, refl, sym, ap, ◌∙◌, subst}
use Rattle.dep_model.specs.declared.location.Location.{Location}
use Rattle.points_to.specs.Agendas.{IsAgenda}
use Rattle.points_to.proofs.ReadyLemmas.{ready_begins, nowhere_begins}
use Rattle.points_to.proofs.solver.Solver.new.Goals as goal

pub returns-clause-ready : goal.returns-clause-ready
returns-clause-ready c =
    let long = ap (λ (xs : List Location). length xs) c.requires.list_is in
    ready_begins c.args.program.now _ c.len.result c.len-2.result c.len-3.result c.requires.once c.requires.effects refl c.requires.list_is (c.len.ensures ∙ long) (c.len-2.ensures ∙ long) (c.len-3.ensures ∙ long) c.in_ok-rows.ensures.empty c.in_ok-sides.ensures.empty
    (subst (λ n. IsAgenda n c.in_ok-agenda.agenda) (c.len-4.ensures ∙ sym c.len.ensures) c.in_ok-agenda.ensures.sized)

pub returns-clause-nowhere : goal.returns-clause-nowhere
returns-clause-nowhere c =
    let long = ap (λ (xs : List Location). length xs) c.requires.list_is in
    nowhere_begins c.args.program.now _ c.len.result c.len-2.result (c.len.ensures ∙ long) (c.len-2.ensures ∙ long) c.in_ok-rows.ensures.empty
