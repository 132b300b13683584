-- One argument is passed, and then the others.
use Rattle.std.proofs.Common.{ℕ, List, ◌∷◌, ap₂}
use Rattle.c_tree.specs.declared.expr.Expr.{Expr}
use Rattle.dep_model.specs.MayPoint.{passed}
use Rattle.points_to.specs.Sweeps.{standing}
use Rattle.points_to.proofs.SweepLemmas.{swept_same}
use Rattle.points_to.proofs.ValueLemmas.{passed_turn}
use Rattle.points_to.proofs.solver.Solver.+pass.Goals as goal

pub returns-in-Some-split_first : goal.returns-in-Some-split_first
returns-in-Some-split_first t c =
    let w = c.args.self.now in
    let p = w.effects in
    let x = c.in-Some.parameter.now in
    let xs = c.in-Some.parameters.now in
    let e = c.in-Some-split_first.value.now in
    let es = c.in-Some-split_first.values.now in
    let mid = c.pass_one-first.new.self in
    let new = c.pass-more.new.self in
    swept_same p (λ points. passed p points (x ∷ xs) (e ∷ es)) (λ points. passed p points c.args.parameters.now c.args.values.now) (standing w) new _
    (λ points. ap₂ (λ (a : List ℕ) (b : List Expr). passed p points a b) c.in-Some.ensures.cases.0 c.in-Some-split_first.ensures.cases.0)
    (passed_turn p x xs e es (standing w) mid new c.pass_one-first.result c.pass-more.result c.pass_one-first.ensures c.pass-more.ensures)
