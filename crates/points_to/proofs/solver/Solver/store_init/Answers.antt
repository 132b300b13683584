use Rattle.std.proofs.Common.{refl, ap, subst}
use Rattle.dep_model.specs.Denoted.{expr_points}
use Rattle.dep_model.specs.LocationRows.{points_of}
use Rattle.dep_model.specs.MayPoint.{pointing}
use Rattle.points_to.specs.Sweeps.{standing, IsSwept, stored, init_given}
use Rattle.points_to.proofs.SweepLemmas.{swept_none, swept_one, swept_same}
use Rattle.points_to.proofs.solver.Solver.store_init.Goals as goal

pub returns-in-None : goal.returns-in-None
returns-in-None c = λ into left.
    let w = c.args.self.now in
    swept_none w.effects (init_given w.effects into c.args.init.now) (standing w) w c.requires.ready refl refl (λ points. ap (λ i. init_given w.effects into i points) c.in-None.is)

pub returns-in-One : goal.returns-in-One
returns-in-One c = λ into left.
    let w = c.args.self.now in
    let p = w.effects in
    swept_one p (init_given p into c.args.init.now) (pointing into (expr_points p (points_of p w.points) c.in-One.value)) (standing w) c.store.new.self c.store.result (ap (λ i. init_given p into i (points_of p w.points)) c.in-One.is) (c.store.ensures.used into left)

pub returns-in-Items : goal.returns-in-Items
returns-in-Items c = λ into left.
    let w = c.args.self.now in
    let p = w.effects in
    swept_same p (stored p into c.in-Items.values) (init_given p into c.args.init.now) (standing w) c.store_all.new.self c.store_all.result (λ points. ap (λ i. init_given p into i points) c.in-Items.is)
    (subst (λ es. IsSwept p (stored p into es) (standing w) c.store_all.new.self c.store_all.result) c.as_slice.ensures (c.store_all.ensures into left))
