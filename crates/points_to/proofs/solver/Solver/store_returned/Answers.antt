use Rattle.std.proofs.Common.{refl, ap}
use Rattle.dep_model.specs.Denoted.{expr_points}
use Rattle.dep_model.specs.LocationRows.{points_of}
use Rattle.dep_model.specs.MayPoint.{pointing}
use Rattle.points_to.specs.Sweeps.{standing, returned_given}
use Rattle.points_to.proofs.SweepLemmas.{swept_none, swept_one}
use Rattle.points_to.proofs.solver.Solver.store_returned.Goals as goal

pub returns-in-None : goal.returns-in-None
returns-in-None c = λ into left.
    let w = c.args.self.now in
    swept_none w.effects (returned_given w.effects into c.args.value.now) (standing w) w c.requires.ready refl refl (λ points. ap (λ e. returned_given w.effects into e points) c.in-None.is)

pub returns-in-Some : goal.returns-in-Some
returns-in-Some c = λ into left.
    let w = c.args.self.now in
    let p = w.effects in
    swept_one p (returned_given p into c.args.value.now) (pointing into (expr_points p (points_of p w.points) c.in-Some.value)) (standing w) c.store.new.self c.store.result (ap (λ e. returned_given p into e (points_of p w.points)) c.in-Some.is) (c.store.ensures.used into left)
