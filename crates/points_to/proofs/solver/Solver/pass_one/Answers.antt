-- The left side is the parameter, and the program stays as it was.
use Rattle.std.proofs.Common.{sym, ap, ◌∙◌, subst, arith}
use Rattle.dep_model.specs.Denoted.{whole, expr_points}
use Rattle.dep_model.specs.LocationRows.{points_of}
use Rattle.dep_model.specs.MayPoint.{pointing}
use Rattle.effect_rows.specs.Gains.{row_of}
use Rattle.points_to.specs.Sweeps.{standing, IsUsed}
use Rattle.points_to.proofs.SidesLemmas.{filled_row}
use Rattle.points_to.proofs.solver.Solver.pass_one.Goals as goal

pub returns : goal.returns
returns c =
    let w = c.args.self.now in
    let into = whole c.args.parameter in
    let kept = c.add_variable.ensures.kept in
    let left = filled_row w.effects 0 w.sides c.clear.new.self c.requires.ready.sides_are (omega arith) c.clear.ensures.cleared into _ c.add_variable.ensures.gained in
    subst (λ p. IsUsed p (pointing into (expr_points p (points_of p w.points) c.args.value.now)) (standing w) c.store.new.self c.store.result) kept
    (c.store.ensures.used into (left ∙ ap (λ p. row_of p into) (sym kept)))
