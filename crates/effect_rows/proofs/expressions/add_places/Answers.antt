-- What designates no object has no places.
use Rattle.std.proofs.Common.{sym, ◌∙◌}
use Rattle.dep_model.specs.Denoted.{expr_places}
use Rattle.effect_rows.specs.Pointed.{points_in}
use Rattle.effect_rows.proofs.NamedLemmas.{no_object}
use Rattle.effect_rows.proofs.ReadLemmas.{none_read}
use Rattle.effect_rows.proofs.expressions.add_places.Goals as goal

pub returns-else-is_place-clause-gained : goal.returns-else-is_place-clause-gained
returns-else-is_place-clause-gained c =
    let p = c.args.g.now.program in
    let to = points_in c.args.g.now in
    none_read p c.args.row c.args.rows.now (expr_places p to c.args.e.now) (no_object p to c.args.e.now (sym (c.is_place.ensures p to) ∙ c.if-is_place.false))
