-- Wherever a run of a well-formed program stands, the tests of types let each expression through.
use Rattle.std.proofs.Common.{◌≡◌, ℕ, List, ◌∷◌}
use Rattle.std.specs.Prelude.{Contains}
use Rattle.std.proofs.lemmas.Bool.{or_left}
use Rattle.c_tree.specs.declared.expr.Expr.{Expr}
use Rattle.c_tree.specs.declared.program.Program.{Program}
use Rattle.c_meaning.specs.Values.{State}
use Rattle.c_meaning.specs.Activations.{executable, result_at}
use Rattle.c_meaning.specs.Steps.{Waiting, Point}
use Rattle.dep_model.specs.Denoted.{TargetsOf}
use Rattle.dep_model.specs.Doings.{Doing, Calls}
use Rattle.dep_model.specs.DoingEffects.{doing_takes, left_takes}
use Rattle.dep_model.specs.LocationLists.{AreStructsInOrder}
use Rattle.dep_model.specs.MayPoint.{IsPointsTo}
use Rattle.dep_model.proofs.Membership.{in_of_contains}
use Rattle.dep_model.proofs.StructOrder.{well_formed_in_order}
use Rattle.run_facts.specs.Effects.{back_in}
use Rattle.run_facts.specs.Laws.{TypesAlwaysFit}
use Rattle.run_facts.specs.NextExprs.{target_exprs, doing_values, doing_places}
use Rattle.run_facts.specs.TypedStates.{IsTypedState}
use Rattle.run_facts.specs.UntestedMeanings.{Fits, TypesFit}
use Rattle.run_facts.proofs.CoveredRuns.{doing_value, doing_place, stands_next, receipt_used}
use Rattle.run_facts.proofs.ExprsDenoted.{AreShapes}
use Rattle.run_facts.proofs.TypedParts.{StandsIn, doing_taken}
use Rattle.run_facts.proofs.TypedRuns.{IsKnown, IsTypedPoint, back_typed, typed_run, known_run}
use Rattle.run_facts.proofs.UntestedForms.{untested_same}
use Rattle.run_facts.proofs.UsedExprs.{IsValueOf}
use Rattle.typed_programs.specs.TypedStatements.{IsTyped}
use Rattle.typed_programs.proofs.TreeTypes.{type_is}
use Rattle.typed_programs.proofs.TypedPrograms.{programs_typed}

module _ (p : Program) (points : TargetsOf) (order : AreStructsInOrder p) (shapes : AreShapes p) (typed : IsTyped p) where
  expr_fits : (f : ℕ) (s : State) → IsTypedState p points s → (d : Doing) → StandsIn p f d → (e : Expr) → IsValueOf p points shapes (doing_takes p d) e → Fits p f s e
  expr_fits f s so d stands e used =
      untested_same p order shapes points s so (result_at (executable p) f) e used.operand used.operand_is
      (λ x t. doing_taken p f d stands x (used.taken x (or_left (left_takes p e x) _ t)))

  module _ (exact : IsPointsTo p points) (x : Point) (known : IsKnown p points x) (so : IsTypedPoint p points x) where
    receipt_fits : (w : Waiting) (ws : List Waiting) (e : Expr) → x.callers ≡ w ∷ ws → Contains (target_exprs w.target) e → Fits p w.function (back_in (executable p) x.function w x.state) e
    receipt_fits w ws e are c =
        let u = receipt_used p points order shapes typed exact x known so w ws e are c in
        expr_fits w.function (back_in (executable p) x.function w x.state) (back_typed p points order shapes typed exact x w ws are known so) (Calls w.call w.target x.function u.args) u.stands e u.used

    pub point_fits : TypesFit p x
    point_fits = record {
      values = λ d e is c. let k = stands_next p points order shapes typed exact x known so d is in expr_fits x.function x.state so.state d k e (doing_value p points order shapes typed x.function d k e (in_of_contains (doing_values d) e c));
      places = λ d e is c. let k = stands_next p points order shapes typed exact x known so d is in expr_fits x.function x.state so.state d k e (doing_place p points order shapes typed x.function d k e (in_of_contains (doing_places d) e c));
      receipts = receipt_fits;
    }

pub types_always_fit : TypesAlwaysFit
types_always_fit p a ok is input x r =
    point_fits p a.points (well_formed_in_order p ok) (type_is p) (programs_typed p ok) is.points_are x (known_run p a.points (programs_typed p ok) input x r) (typed_run p a.points ok is.points_are input x r)
