-- A program has one analysis for its points-to relation, and so one set of edges.
use mathlib.Core.Path.{fun_ext}
use Rattle.std.proofs.Common.{◌≡◌, ℕ, List, Bool, Contains, ap, subst, ◌∙◌}
use Rattle.rule_closure.proofs.SetLemmas.{same_test}
use Rattle.c_tree.specs.declared.program.Program.{Program}
use Rattle.dep_model.specs.declared.edge.Edge.{Edge}
use Rattle.dep_model.specs.declared.location.Location.{Location}
use Rattle.dep_model.specs.Denoted.{TargetsOf}
use Rattle.dep_model.specs.MayPoint.{IsPointsTo}
use Rattle.dep_model.specs.ModRef.{FunctionEffects, AreFunctionEffects}
use Rattle.dep_model.specs.SystemGraph.{Analysis, IsAnalysis, IsSystemEdge, AreSystemEdges}
use Rattle.dep_model.specs.Laws.{IsOneAnalysis}
use Rattle.dep_model.proofs.CallClosure.{found_effects, are_found_effects}
use Rattle.dep_model.proofs.MayPointLaws.{points_one}

module _ (p : Program) where
  -- may-point is one relation
  pub one_points : (x y : TargetsOf) → IsPointsTo p x → IsPointsTo p y → x ≡ y
  one_points x y a b = fun_ext (λ l. fun_ext (λ m. same_test (x l m) (y l m) (points_one p x y a b l m, points_one p y x b a l m)))

  -- what functions modify and use is one for one may-point
  pub one_effects : (points : TargetsOf) (e f : FunctionEffects) → AreFunctionEffects p points e → AreFunctionEffects p points f → e ≡ f
  one_effects points e f a b =
      let modified : e.modified ≡ f.modified =
      fun_ext (λ g. fun_ext (λ l. same_test (e.modified g l) (f.modified g l) (λ h. (b.modified_are g l).1 ((a.modified_are g l).0 h), λ h. (a.modified_are g l).1 ((b.modified_are g l).0 h)))) in
      let used : e.used ≡ f.used =
      fun_ext (λ g. fun_ext (λ l. same_test (e.used g l) (f.used g l) (λ h. (b.used_are g l).1 ((a.used_are g l).0 h), λ h. (a.used_are g l).1 ((b.used_are g l).0 h)))) in
      ap (λ (m : ℕ → Location → Bool). record { modified = m; used = e.used }) modified ∙ ap (λ (u : ℕ → Location → Bool). record { modified = f.modified; used = u }) used

  pub one_analysis : (a b : Analysis) → IsAnalysis p a → IsAnalysis p b → a ≡ b
  one_analysis a b first second =
      let points : a.points ≡ b.points = one_points a.points b.points first.points_are second.points_are in
      let effects : a.effects ≡ b.effects = one_effects b.points a.effects b.effects (subst (λ x. AreFunctionEffects p x a.effects) points first.effects_are) second.effects_are in
      ap (λ (x : TargetsOf). record { points = x; effects = a.effects }) points ∙ ap (λ (e : FunctionEffects). record { points = b.points; effects = e }) effects

  -- where it is known what each location may point to, there is an analysis
  pub has_analysis : (points : TargetsOf) → IsPointsTo p points → (a : Analysis) × IsOneAnalysis p a
  has_analysis points is =
      let a : Analysis = record { points = points; effects = found_effects p points } in
      let here : IsAnalysis p a = record { points_are = is; effects_are = are_found_effects p points } in
      (a, record { is_analysis = here; one = λ b there. one_analysis b a there here })

  -- two lists of the edges of a program have the same edges
  pub same_edges : (a b : Analysis) (es fs : List Edge) → IsAnalysis p a → IsAnalysis p b → AreSystemEdges p a es → AreSystemEdges p b fs → (e : Edge) → Contains es e → Contains fs e
  same_edges a b es fs first second is also e c = (also e).1 (subst (λ x. IsSystemEdge p x e) (one_analysis a b first second) ((is e).0 c))
