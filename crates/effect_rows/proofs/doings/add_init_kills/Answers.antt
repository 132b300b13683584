-- What may be reached otherwise isn't killed.
use Rattle.std.proofs.Common.{Bool, ◌&&◌, sym, ap, ◌∙◌}
use Rattle.dep_model.specs.Denoted.{Places}
use Rattle.dep_model.specs.DoingEffects.{init_places}
use Rattle.effect_rows.specs.Own.{init_kills}
use Rattle.effect_rows.specs.Pointed.{points_in}
use Rattle.effect_rows.proofs.ReadLemmas.{none_read}
use Rattle.effect_rows.proofs.doings.add_init_kills.Goals as goal

pub returns-else-is_killable-clause-gained : goal.returns-else-is_killable-clause-gained
returns-else-is_killable-clause-gained c =
    let p = c.args.g.now.program in
    let to = points_in c.args.g.now in
    none_read p c.args.row c.args.rows.now (init_kills p to c.args.var c.args.init.now)
    (ap (λ (b : Bool). let a : Places = λ l. b && init_places p to c.args.var c.args.init.now l in a) (sym c.is_killable.ensures ∙ c.if-is_killable.false))
