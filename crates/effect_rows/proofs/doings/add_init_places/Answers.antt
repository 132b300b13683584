-- An initialiser may set nothing, or the elements of an array.
use Rattle.std.proofs.Common.{refl, sym, ap, ◌∙◌}
use Rattle.dep_model.specs.declared.location.Part.TheVariants as part
use Rattle.dep_model.specs.Denoted.{Places, whole}
use Rattle.dep_model.specs.DoingEffects.{init_places}
use Rattle.effect_rows.specs.Gains.{with_places}
use Rattle.effect_rows.specs.Pointed.{points_in}
use Rattle.effect_rows.proofs.DoingLemmas.{taken_part}
use Rattle.effect_rows.proofs.ReadLemmas.{none_read}
use Rattle.effect_rows.proofs.doings.add_init_places.Goals as goal

pub returns-in-None-clause-gained : goal.returns-in-None-clause-gained
returns-in-None-clause-gained c =
    let p = c.args.g.now.program in
    let to = points_in c.args.g.now in
    none_read p c.args.row c.args.rows.now (init_places p to c.args.x c.args.init.now) (ap (init_places p to c.args.x) c.in-None.is)

pub returns-in-Items-clause-gained : goal.returns-in-Items-clause-gained
returns-in-Items-clause-gained c =
    let p = c.args.g.now.program in
    let to = points_in c.args.g.now in
    c.add_variable-in-Items.ensures.gained
    ∙ ap (λ (a : Places). with_places p c.args.row a c.args.rows.now) (taken_part p to part.Element _ (whole c.args.x) refl ∙ sym (ap (init_places p to c.args.x) c.in-Items.is))
