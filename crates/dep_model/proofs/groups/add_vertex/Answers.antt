use Rattle.std.proofs.Common.{ℕ, eq-eqb, refl, ◌∙◌}
use Rattle.dep_model.specs.Groups.{is_at}
use Rattle.dep_model.proofs.RowLemmas.{statement_grown}
use Rattle.dep_model.proofs.groups.add_vertex.Goals as goal

pub overflow_sub-id : goal.overflow_sub-id
overflow_sub-id c = c.requires.has_row c.in-Some.id (c.in-Some.ensures c.in-Some.id ∙ eq-eqb c.in-Some.id c.in-Some.id refl)

pub returns-in_ok-add : goal.returns-in_ok-add
returns-in_ok-add c = λ (i : ℕ).
    let id = c.in-Some.id in
    statement_grown c.args.first id c.args.number c.args.rows.now c.add.new.rows (c.requires.has_row id (c.in-Some.ensures id ∙ eq-eqb id id refl)) c.in_ok-add.ensures i (is_at c.args.actuals i c.args.kind) (c.in-Some.ensures i)
