-- A closed set keeps what may define what is wanted by chains, as the law on slices asks for it.
use Rattle.std.proofs.Common.{◌≡◌, ℕ, suc, ◌+◌, ◌<◌, List, [], ◌∷◌, length, map, Bool, true, ◌&&◌, inl, inr, refl, ap, subst, arith}
use Rattle.bit_rows.specs.Sets.{has}
use Rattle.c_tree.specs.declared.expr.Expr.{Expr}
use Rattle.c_tree.specs.declared.program.Function.{Function}
use Rattle.c_tree.specs.declared.program.Program.{Program}
use Rattle.c_tree.specs.declared.statement.Target.{Target}
use Rattle.c_tree.specs.declared.statement.Target.TheVariants as target
use Rattle.c_language.specs.Code.{Code}
use Rattle.c_meaning.specs.Activations.{executable, code_at}
use Rattle.dep_model.specs.declared.edge.Edge.{Edge}
use Rattle.dep_model.specs.declared.location.Location.{Location}
use Rattle.dep_model.specs.declared.vertex.Vertex.{Vertex}
use Rattle.dep_model.specs.declared.vertex.VertexKind.{VertexKind}
use Rattle.dep_model.specs.declared.vertex.VertexKind.TheVariants as kind
use Rattle.dep_model.specs.ClosedSets.{IsClosedIn}
use Rattle.dep_model.specs.Doings as doing
use Rattle.dep_model.specs.Doings.{doings_of}
use Rattle.dep_model.specs.FunctionVertices.{numbers, code_in}
use Rattle.dep_model.specs.ModRef.{FunctionEffects, is_outside}
use Rattle.dep_model.specs.SystemGraph.{Analysis, IsAnalysis, vertices_of, AreSystemEdges, IsVertex}
use Rattle.dep_model.specs.VertexOrder.{in_function, target_slots, function_kinds, vertices_from, doing_at, kind_defines}
use Rattle.dep_model.proofs.Membership.{IsIn, in_of_get, contains_of_in, in_either, of_map}
use Rattle.run_facts.specs.NextSteps.{stores}
use Rattle.simulation.specs.Premises.{Closing}
use Rattle.simulation.specs.Settings.{ActualOut, ResultOut, Setting}
use Rattle.simulation_locations.specs.Chained.{Counterpart, chained, HasSoundCalls}
use Rattle.simulation_locations.specs.KeptVertices.{keeps_vertex}
use Rattle.simulation_locations.specs.Laws.{KeepsCall}
use Rattle.simulation_locations.specs.Wanted.{IsFlowClosed, comes_out, gives_result, WantedAt, entered_at}
use Rattle.simulation_locations.proofs.ActRules.{definer_act_kept}
use Rattle.simulation_locations.proofs.Between.{flow_closed, call_of_out, call_of_result}
use Rattle.simulation_locations.proofs.CallRules.{out_kept, result_kept}
use Rattle.simulation_locations.proofs.CallVertices.{kind_there, call_vertices}
use Rattle.simulation_locations.proofs.ChainedRules.{does_member, calls_member, waiting_calls, turns_of, place_there}
use Rattle.simulation_locations.proofs.Formals.{formal_in_kept}
use Rattle.simulation_locations.proofs.InFunction.{entered_is, wanted_is_used}
use Rattle.simulation_locations.proofs.KeptCalls.{keeps_call}
use Rattle.simulation_locations.proofs.KeptNumbers.{passing}
use Rattle.simulation_locations.proofs.KillsDefine.{statement_define, result_define}
use Rattle.simulation_locations.proofs.RunPlaces.{code_is}
use Rattle.simulation_locations.proofs.Taken.{taken}

-- ---- functions of vertices

module _ (p : Program) (effects : FunctionEffects) where
  low_from : (n : ℕ) (gs : List Function) (v : Vertex) → IsIn (vertices_from p effects n gs) v → v.function < n + length gs
  low_from n [] v h = absurd h
  low_from n (g ∷ gs) v h = elim (in_either (map (in_function n) (function_kinds p effects n)) (vertices_from p effects (suc n) gs) v h) [
    | inl x ↦ (let e : n ≡ v.function = ap (λ (y : Vertex). y.function) (of_map (in_function n) (function_kinds p effects n) v x).2 in omega (arith, e))
    | inr y ↦ (let lt = low_from (suc n) gs v y in omega (arith, lt))
  ]

function_low : (p : Program) (a : Analysis) (f n : ℕ) (k : VertexKind) → IsVertex (vertices_of p a) f k n → f < length p.functions
function_low p a f n k is =
    let lt = low_from p a.effects 0 p.functions (in_function f k) (in_of_get (vertices_of p a) n (in_function f k) is) in omega (arith, lt)

module _ (p : Program) (a : Analysis) (edges : List Edge) (kept : List Bool) (c : Counterpart) (holds : ℕ → Type 0) (sound : HasSoundCalls p a) (is_analysis : IsAnalysis p a) (are : AreSystemEdges p a edges) (closed : IsClosedIn p (vertices_of p a) edges kept) where
  abbrev s : Setting
  s = chained p a kept c holds

  flows : IsFlowClosed p a kept
  flows = flow_closed p a edges are kept closed

  of_call : (f i g : ℕ) (to : Target) (args : List Expr) → IsIn (doings_of p f) (doing.Calls i to g args) → KeepsCall p a kept f i g to
  of_call f i g to args m = keeps_call p a edges kept f i g to args sound are closed (contains_of_in (doings_of p f) (doing.Calls i to g args) m)

  -- what is wanted where a function begins, by its code in the program
  at_body : (g : ℕ) (l : Location) → WantedAt p a kept g l (entered_at p a g (code_at (executable p) g)) → WantedAt p a kept g l (entered_at p a g (code_in p g))
  at_body g l h = subst (λ (q : Code). WantedAt p a kept g l (entered_at p a g q)) (code_is p a g) h

  taken_there : (g : ℕ) (l : Location) → WantedAt p a kept g l (entered_at p a g (code_at (executable p) g)) → is_outside p l ≡ true → s.takes g l ≡ true
  taken_there g l h out =
      let w = wanted_is_used p a g kept l (entered_at p a g (code_in p g)) (at_body g l h) (entered_is p a g (code_in p g)) in
      taken p a sound is_analysis g l out kept (at_body g l h) (function_low p a g w.vertex w.is_of.kind w.is_of.is)

  out_low : (f i g : ℕ) (l : Location) → keeps_vertex p a kept (ActualOut f i g l) ≡ true → f < length p.functions
  out_low f i g l e =
      let test : VertexKind → Bool = (λ k. comes_out i k && kind_defines p a.points f k l) in
      let w = passing (λ (n : ℕ). has kept n) (numbers test f (vertices_of p a)) e in
      let k = kind_there p a test f w.number w.member in
      function_low p a f w.number k.kind k.is

  result_low : (f i g : ℕ) → keeps_vertex p a kept (ResultOut f i g) ≡ true → f < length p.functions
  result_low f i g e =
      let w = passing (λ (n : ℕ). has kept n) (numbers (gives_result i) f (vertices_of p a)) e in
      let k = kind_there p a (gives_result i) f w.number w.member in
      function_low p a f w.number k.kind k.is

  -- a call with an actual-out of its result stores that
  stored_there : (f i g : ℕ) (to : Target) (args : List Expr) → IsIn (doings_of p f) (doing.Calls i to g args) → keeps_vertex p a kept (ResultOut f i g) ≡ true → stores to ≡ true
  stored_there f i g to args m e =
      let w = passing (λ (n : ℕ). has kept n) (numbers (gives_result i) f (vertices_of p a)) e in
      let all = call_vertices p a sound.numbered f i g to args m in
      by_target to (all.result_is w.number w.member).0 (all.result_is w.number w.member).1
    where
      by_target : (t : Target) (k : VertexKind) → IsIn (map (kind.ActualOut i) (target_slots p a.effects t)) k → stores t ≡ true
      by_target target.None k h = absurd h
      by_target (target.Place x) k h = refl
      by_target (target.Declared x) k h = refl

  pub closing : Closing s
  closing = record {
    statement_kills = λ f i l k. statement_define p a.points l f (doing_at p f i) k;
    result_kills = λ f i g l k. result_define p a.points l f (doing_at p f i) k;
    modified_outside = λ g l m. ((is_analysis.effects_are.modified_are g l).0 m).outside;
    act = λ x i act go v l r e is want d. definer_act_kept p a sound.numbered kept x.function x.rest l (place_there p a kept c holds x r) i act go e (does_member p a kept c holds x i act go r e) flows v d want;
    taken = λ g l want out. taken_there g l want out;
    formal_in = λ g l want t. formal_in_kept p a kept g l flows (at_body g l want) t;
    actual_in = λ x i to g args q l r e k out formal. (of_call x.function i g to args (calls_member p a kept c holds x i to g args q r e)).actual_in l out k formal;
    actual_out = λ x w ws l r e cs want m.
        let k = waiting_calls p a kept c holds x [] w ws r cs in
        out_kept p a sound.numbered kept w.function w.call x.function w.target k.args w.rest k.calls l (turns_of p a kept c holds x [] w ws r cs).turns flows m (sound.modified_listed x.function l m) want;
    formal_out = λ x w ws l r e cs m.
        let k = waiting_calls p a kept c holds x [] w ws r cs in
        (of_call w.function w.call x.function w.target k.args k.calls).formal_out l m;
    result = λ x w ws l r e cs st want d.
        let k = waiting_calls p a kept c holds x [] w ws r cs in
        result_kept p a sound.numbered kept w.function w.call x.function w.target k.args w.rest k.calls l (turns_of p a kept c holds x [] w ws r cs).turns st flows d want;
    formal_result = λ x w ws r e cs m.
        let k = waiting_calls p a kept c holds x [] w ws r cs in
        (of_call w.function w.call x.function w.target k.args k.calls).formal_result (stored_there w.function w.call x.function w.target k.args k.calls m) m;
    call_of_out = λ f i g l m. call_of_out p a edges are kept closed f i g l (out_low f i g l m) m;
    call_of_result = λ f i g m. call_of_result p a edges are kept closed f i g (result_low f i g m) m;
  }
