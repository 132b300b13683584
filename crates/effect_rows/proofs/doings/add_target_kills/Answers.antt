-- A value that isn't stored kills nothing, nor does one in a variable that may be reached otherwise.
use Rattle.std.proofs.Common.{Bool, ◌&&◌, sym, ap, ◌∙◌}
use Rattle.dep_model.specs.Denoted.{Places, whole}
use Rattle.dep_model.specs.DoingEffects.{target_kills}
use Rattle.effect_rows.specs.Pointed.{points_in}
use Rattle.effect_rows.proofs.ReadLemmas.{none_read}
use Rattle.effect_rows.proofs.doings.add_target_kills.Goals as goal

pub returns-in-None-clause-gained : goal.returns-in-None-clause-gained
returns-in-None-clause-gained c =
    let p = c.args.g.now.program in
    let to = points_in c.args.g.now in
    none_read p c.args.row c.args.rows.now (target_kills p to c.args.to.now) (ap (target_kills p to) c.in-None.is)

pub returns-else-is_killable-clause-gained : goal.returns-else-is_killable-clause-gained
returns-else-is_killable-clause-gained c =
    let p = c.args.g.now.program in
    let to = points_in c.args.g.now in
    none_read p c.args.row c.args.rows.now (target_kills p to c.args.to.now)
    (ap (target_kills p to) c.in-Declared.is
    ∙ ap (λ (b : Bool). let a : Places = λ l. b && whole c.in-Declared.x l in a) (sym c.is_killable.ensures ∙ c.if-is_killable.false))
