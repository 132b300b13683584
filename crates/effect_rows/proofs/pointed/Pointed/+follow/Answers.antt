-- A step that leads nowhere adds nothing.
use Rattle.std.proofs.Common.{sym, ap, ◌∙◌}
use Rattle.effect_rows.specs.Gains.{with_places}
use Rattle.effect_rows.specs.Pointed.{points_in}
use Rattle.effect_rows.specs.Steps.{taken}
use Rattle.effect_rows.proofs.GainLemmas.{gains_nothing}
use Rattle.effect_rows.proofs.PlaceLemmas.{taken-Nowhere}
use Rattle.effect_rows.proofs.pointed.Pointed.+follow.Goals as goal

pub returns-in-Nowhere-clause-gained : goal.returns-in-Nowhere-clause-gained
returns-in-Nowhere-clause-gained t c a held =
    let p = c.args.self.now.program in
    let points = points_in c.args.self.now in
    sym (ap (λ f. with_places p c.args.row (f a) c.args.rows.now) (ap (taken p points) c.in-Nowhere.is ∙ taken-Nowhere p points) ∙ gains_nothing p c.args.row c.args.rows.now)
