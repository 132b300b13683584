-- The acts of a criterion are kept, in activations that kept calls alone have reached, and told under their ranks.
use Rattle.std.proofs.Common.{◌≡◌, ℕ, List, [], ◌++◌, map, Bool, true, inl, inr, refl, ◌∙◌, eq-eqb}
use Rattle.std.specs.List.{list_any}
use Rattle.bit_rows.specs.Sets.{has}
use Rattle.std.proofs.lemmas.Bool.{false≢true}
use Rattle.c_tree.specs.declared.expr.Expr.{Expr}
use Rattle.c_tree.specs.declared.statement.Target.{Target}
use Rattle.c_tree.specs.declared.statement.Target.TheVariants as target
use Rattle.c_language.specs.Code.{Act}
use Rattle.dep_model.specs.declared.edge.Edge.{Edge}
use Rattle.dep_model.specs.declared.vertex.Slot.TheVariants.{Result}
use Rattle.dep_model.specs.declared.vertex.VertexKind.{VertexKind}
use Rattle.dep_model.specs.declared.vertex.VertexKind.TheVariants as kind
use Rattle.dep_model.specs.Criteria.{criterion_of}
use Rattle.dep_model.specs.Doings as doing
use Rattle.dep_model.specs.Doings.{Doing, doings_of}
use Rattle.dep_model.specs.FunctionVertices.{numbers}
use Rattle.dep_model.specs.SystemGraph.{vertices_of, AreSystemEdges, IsVertex}
use Rattle.dep_model.specs.VertexOrder.{arguments_from, slots_of, touched, target_slots, doing_vertices}
use Rattle.dep_model.specs.Words.{ReachesAny}
use Rattle.dep_model.proofs.Membership.{IsIn, contains_of_in, in_second, in_map}
use Rattle.run_facts.specs.NextSteps.{stores}
use Rattle.simulation.specs.Premises.{Telling}
use Rattle.simulation.specs.Settings.{Statement, Calling, ResultOut, Setting}
use Rattle.simulation_locations.specs.KeptVertices.{is_statement, is_call, keeps_vertex}
use Rattle.simulation_locations.specs.Wanted.{gives_result}
use Rattle.simulation_locations.proofs.CallVertices.{number_there}
use Rattle.simulation_locations.proofs.ChainedRules.{does_member, calls_member, waiting_calls}
use Rattle.simulation_locations.proofs.FunctionKinds.{statement_there, vertex_of}
use Rattle.simulation_locations.proofs.KeptCalls.{function_there}
use Rattle.simulation_locations.proofs.KeptNumbers.{passes_any}
use Rattle.simulation_steps.specs.SlicePairs.{SlicePair, twin_of, setting_over}
use Rattle.simulation_values.specs.Holding.{Holds, own, by_call, HasReaching, IsRanked}
use Rattle.simulation_values.proofs.HoldingCalls.{HoldingCallsAreReached, criteria_reached}

module _ (calls_reach : HoldingCallsAreReached) (pair : SlicePair) (edges : List Edge) (are : AreSystemEdges pair.original pair.analysis edges) (reached_kept : HasReaching pair edges) (stand : IsRanked pair) where
  abbrev s : Setting
  s = setting_over pair (λ f. Holds pair.original pair.criterion f)

  -- a vertex that reaches the criterion is kept, as what it is
  keeps_it : (test : VertexKind → Bool) (f v : ℕ) (kind_ : VertexKind) → IsVertex (vertices_of pair.original pair.analysis) f kind_ v → test kind_ ≡ true → ReachesAny edges (criterion_of pair.criterion (vertices_of pair.original pair.analysis)) v → list_any (λ (n : ℕ). has pair.vertices n) (numbers test f (vertices_of pair.original pair.analysis)) ≡ true
  keeps_it test f v kind_ is t reaches =
      passes_any (λ (n : ℕ). has pair.vertices n) (numbers test f (vertices_of pair.original pair.analysis)) v (number_there pair.original pair.analysis test f v kind_ is t) (reached_kept v reaches)

  vertex_there : (f : ℕ) (d : Doing) (kind_ : VertexKind) → IsIn (doings_of pair.original f) d → IsIn (doing_vertices pair.original pair.analysis.effects d) kind_ → (v : ℕ) × IsVertex (vertices_of pair.original pair.analysis) f kind_ v
  vertex_there f d kind_ m h = vertex_of pair.original pair.analysis f kind_ (function_there pair.original f d m) (statement_there pair.original pair.analysis.effects f d kind_ m h)

  act_there : (f i : ℕ) (act : Act) → IsIn (doings_of pair.original f) (doing.Does i act) → pair.criterion i ≡ true → keeps_vertex pair.original pair.analysis pair.vertices (Statement f i) ≡ true
  act_there f i act m e =
      let v = vertex_there f (doing.Does i act) (kind.Statement i) m (inl refl) in
      keeps_it (is_statement i) f v.0 (kind.Statement i) v.1 (eq-eqb i i refl) (criteria_reached pair.original pair.analysis edges pair.criterion f v.0 (kind.Statement i) v.1 e)

  module _ (f i g : ℕ) (to : Target) (args : List Expr) (m : IsIn (doings_of pair.original f) (doing.Calls i to g args)) where
    call_there : pair.criterion i ≡ true → keeps_vertex pair.original pair.analysis pair.vertices (Calling f i g) ≡ true
    call_there e =
        let v = vertex_there f (doing.Calls i to g args) (kind.Call i) m (inl refl) in
        keeps_it (is_call i) f v.0 (kind.Call i) v.1 (eq-eqb i i refl) (criteria_reached pair.original pair.analysis edges pair.criterion f v.0 (kind.Call i) v.1 e)

    -- a call of a function that holds the criterion
    holder_there : Holds pair.original pair.criterion g → keeps_vertex pair.original pair.analysis pair.vertices (Calling f i g) ≡ true
    holder_there h =
        let v = vertex_there f (doing.Calls i to g args) (kind.Call i) m (inl refl) in
        keeps_it (is_call i) f v.0 (kind.Call i) v.1 (eq-eqb i i refl) (calls_reach pair.original pair.analysis edges pair.criterion f i g v.0 to args pair.well are (contains_of_in (doings_of pair.original f) (doing.Calls i to g args) m) h v.1)

    result_slot : (t : Target) → stores t ≡ true → IsIn (target_slots pair.original pair.analysis.effects t) Result
    result_slot target.None e = absurd (false≢true e)
    result_slot (target.Place x) e = inl refl
    result_slot (target.Declared x) e = inl refl

    result_there : stores to ≡ true → pair.criterion i ≡ true → keeps_vertex pair.original pair.analysis pair.vertices (ResultOut f i g) ≡ true
    result_there st e =
        let outs = slots_of pair.original pair.analysis.effects (pair.analysis.effects.modified g) in
        let slot : IsIn (outs ++ target_slots pair.original pair.analysis.effects to) Result = in_second outs (target_slots pair.original pair.analysis.effects to) Result (result_slot to st) in
        let inside : IsIn (doing_vertices pair.original pair.analysis.effects (doing.Calls i to g args)) (kind.ActualOut i Result) = inr (in_second (map (kind.ActualIn i) (arguments_from 0 args ++ slots_of pair.original pair.analysis.effects (touched pair.original pair.analysis.effects g))) (map (kind.ActualOut i) (outs ++ target_slots pair.original pair.analysis.effects to)) (kind.ActualOut i Result) (in_map (kind.ActualOut i) (outs ++ target_slots pair.original pair.analysis.effects to) Result slot)) in
        let v = vertex_there f (doing.Calls i to g args) (kind.ActualOut i Result) m inside in
        keeps_it (gives_result i) f v.0 (kind.ActualOut i Result) v.1 (eq-eqb i i refl) (criteria_reached pair.original pair.analysis edges pair.criterion f v.0 (kind.ActualOut i Result) v.1 e)

    holds_own : pair.criterion i ≡ true → Holds pair.original pair.criterion f
    holds_own e = own (contains_of_in (doings_of pair.original f) (doing.Calls i to g args) m) e

    ranked : keeps_vertex pair.original pair.analysis pair.vertices (Calling f i g) ≡ true → pair.ranks (pair.new.statement i) ≡ pair.criterion i
    ranked e = stand i (pair.projected.calls f i g to args (contains_of_in (doings_of pair.original f) (doing.Calls i to g args) m) ∙ e)

  pub telling : Telling s
  telling = record {
    act_ranks = λ x i act go r e t.
        let m = does_member pair.original pair.analysis pair.vertices (twin_of pair) (λ f. Holds pair.original pair.criterion f) x i act go r e in
        stand i (pair.projected.acts x.function i act (contains_of_in (doings_of pair.original x.function) (doing.Does i act) m) ∙ t);
    act_kept = λ x i act go r e t.
        let m = does_member pair.original pair.analysis pair.vertices (twin_of pair) (λ f. Holds pair.original pair.criterion f) x i act go r e in
        (act_there x.function i act m t, own (contains_of_in (doings_of pair.original x.function) (doing.Does i act) m) t);
    call_ranks = λ x i to g args d r e t. ranked x.function i g to args (calls_member pair.original pair.analysis pair.vertices (twin_of pair) (λ f. Holds pair.original pair.criterion f) x i to g args d r e) t;
    call_kept = λ x i to g args d r e t.
        let m = calls_member pair.original pair.analysis pair.vertices (twin_of pair) (λ f. Holds pair.original pair.criterion f) x i to g args d r e in
        (call_there x.function i g to args m t, holds_own x.function i g to args m t);
    call_stores = λ x i to g args d r e t st. result_there x.function i g to args (calls_member pair.original pair.analysis pair.vertices (twin_of pair) (λ f. Holds pair.original pair.criterion f) x i to g args d r e) st t;
    call_of_holder = λ x i to g args d r e h.
        let m = calls_member pair.original pair.analysis pair.vertices (twin_of pair) (λ f. Holds pair.original pair.criterion f) x i to g args d r e in
        (holder_there x.function i g to args m h, by_call (contains_of_in (doings_of pair.original x.function) (doing.Calls i to g args) m) h);
    store_ranks = λ x w ws r e cs t.
        let m = waiting_calls pair.original pair.analysis pair.vertices (twin_of pair) (λ f. Holds pair.original pair.criterion f) x [] w ws r cs in
        ranked w.function w.call x.function w.target m.args m.calls t;
    store_kept = λ x w ws r e cs st t.
        let m = waiting_calls pair.original pair.analysis pair.vertices (twin_of pair) (λ f. Holds pair.original pair.criterion f) x [] w ws r cs in
        (result_there w.function w.call x.function w.target m.args m.calls st t, holds_own w.function w.call x.function w.target m.args m.calls t);
  }
