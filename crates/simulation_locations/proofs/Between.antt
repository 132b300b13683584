-- What a closed set keeps between calls and the functions called.
use Rattle.std.proofs.Common.{◌≡◌, ℕ, suc, ◌<◌, ◌==◌, List, [], ◌∷◌, ◌++◌, length, map, Bool, true, ◌&&◌, Option, Some, None, ◌⊎◌, inl, inr, refl, sym, ap, ◌∙◌, subst, eq-eqb, eqb-true}
use Rattle.std.specs.Prelude.{IsTrue, Contains}
use Rattle.std.specs.List.{range_with_len}
use Rattle.std.proofs.lemmas.Bool.{false≢true, and_parts, and_from}
use Rattle.bit_rows.specs.Sets.{has}
use Rattle.c_language.proofs.Options.{some_same}
use Rattle.c_tree.specs.declared.expr.Expr.{Expr}
use Rattle.c_tree.specs.declared.program.Program.{Program}
use Rattle.c_tree.specs.declared.statement.Target.{Target}
use Rattle.dep_model.specs.declared.edge.Edge.{Edge}
use Rattle.dep_model.specs.declared.edge.Label.TheVariants as label
use Rattle.dep_model.specs.declared.location.Location.{Location}
use Rattle.dep_model.specs.declared.vertex.Slot.{Slot}
use Rattle.dep_model.specs.declared.vertex.Slot.TheVariants.{Argument, Result, At}
use Rattle.dep_model.specs.declared.vertex.Vertex.{Vertex}
use Rattle.dep_model.specs.declared.vertex.VertexKind.{VertexKind}
use Rattle.dep_model.specs.declared.vertex.VertexKind.TheVariants as kind
use Rattle.dep_model.specs.ClosedSets.{IsClosedIn}
use Rattle.dep_model.specs.Doings as doing
use Rattle.dep_model.specs.Doings.{Doing, doing_number, program_doings, doings_of}
use Rattle.dep_model.specs.DoingEffects.{result_of}
use Rattle.dep_model.specs.FunctionVertices.{is_own, is_actual, is_formal_out, numbers, actual}
use Rattle.dep_model.specs.Graphs.{edge}
use Rattle.dep_model.specs.MayPoint.{parameters}
use Rattle.dep_model.specs.ModRef.{is_outside}
use Rattle.dep_model.specs.SystemGraph as graph
use Rattle.dep_model.specs.SystemGraph.{Analysis, vertices_of, AreSystemEdges, IsVertex, IsCall, IsCallEdge}
use Rattle.dep_model.specs.VertexOrder.{arguments_from, slots_of, touched, target_slots, result_slots, doing_vertices, doing_at, slot_places, actual_uses, out_defines, kind_uses, kind_defines}
use Rattle.dep_model.proofs.Membership.{IsIn, contains_of_in, in_first, in_second, in_either, in_map, of_map}
use Rattle.simulation.specs.Settings.{FormalIn, FormalOut, Calling, ActualIn, ActualOut, ResultOut}
use Rattle.simulation_locations.specs.Wanted.{IsFlowClosed, comes_out, gives_result}
use Rattle.simulation_locations.specs.KeptVertices.{is_call, takes_location, takes_in, passes_in, keeps_vertex}
use Rattle.simulation_locations.proofs.CallVertices.{kind_there, number_there, call_vertices}
use Rattle.simulation_locations.proofs.FunctionKinds.{slot_in, formal_in_slot, statement_kind, formal_out_there, statement_there, kind_of, vertex_of}
use Rattle.simulation_locations.proofs.KeptNumbers.{passing, passes_any}
use Rattle.simulation_locations.proofs.SameLocations.{location_itself}
use Rattle.simulation_locations.proofs.StatementVertices.{of_kind, doing_kind}

-- ---- kinds that a test passes

-- the formal-in of a location
place_of : (k : VertexKind) → takes_location k ≡ true → (n : ℕ) × (k ≡ kind.FormalIn (At n))
place_of kind.Entry e = absurd (false≢true e)
place_of (kind.FormalIn (Argument n)) e = absurd (false≢true e)
place_of (kind.FormalIn Result) e = absurd (false≢true e)
place_of (kind.FormalIn (At n)) e = (n, refl)
place_of (kind.FormalOut s) e = absurd (false≢true e)
place_of (kind.Statement j) e = absurd (false≢true e)
place_of (kind.Call j) e = absurd (false≢true e)
place_of (kind.ActualIn j s) e = absurd (false≢true e)
place_of (kind.ActualOut j s) e = absurd (false≢true e)

call_is : (i : ℕ) (k : VertexKind) → is_call i k ≡ true → k ≡ kind.Call i
call_is i kind.Entry e = absurd (false≢true e)
call_is i (kind.FormalIn s) e = absurd (false≢true e)
call_is i (kind.FormalOut s) e = absurd (false≢true e)
call_is i (kind.Statement j) e = absurd (false≢true e)
call_is i (kind.Call j) e = ap kind.Call (eqb-true j i e)
call_is i (kind.ActualIn j s) e = absurd (false≢true e)
call_is i (kind.ActualOut j s) e = absurd (false≢true e)

out_is : (i : ℕ) (k : VertexKind) → comes_out i k ≡ true → (n : ℕ) × (k ≡ kind.ActualOut i (At n))
out_is i kind.Entry e = absurd (false≢true e)
out_is i (kind.FormalIn s) e = absurd (false≢true e)
out_is i (kind.FormalOut s) e = absurd (false≢true e)
out_is i (kind.Statement j) e = absurd (false≢true e)
out_is i (kind.Call j) e = absurd (false≢true e)
out_is i (kind.ActualIn j s) e = absurd (false≢true e)
out_is i (kind.ActualOut j (Argument n)) e = absurd (false≢true e)
out_is i (kind.ActualOut j Result) e = absurd (false≢true e)
out_is i (kind.ActualOut j (At n)) e = (n, ap (λ (m : ℕ). kind.ActualOut m (At n)) (eqb-true j i e))

result_is : (i : ℕ) (k : VertexKind) → gives_result i k ≡ true → k ≡ kind.ActualOut i Result
result_is i kind.Entry e = absurd (false≢true e)
result_is i (kind.FormalIn s) e = absurd (false≢true e)
result_is i (kind.FormalOut s) e = absurd (false≢true e)
result_is i (kind.Statement j) e = absurd (false≢true e)
result_is i (kind.Call j) e = absurd (false≢true e)
result_is i (kind.ActualIn j s) e = absurd (false≢true e)
result_is i (kind.ActualOut j (Argument n)) e = absurd (false≢true e)
result_is i (kind.ActualOut j Result) e = ap (λ (m : ℕ). kind.ActualOut m Result) (eqb-true j i e)
result_is i (kind.ActualOut j (At n)) e = absurd (false≢true e)

module _ (p : Program) (a : Analysis) (edges : List Edge) (are : AreSystemEdges p a edges) (kept : List Bool) (closed : IsClosedIn p (vertices_of p a) edges kept) where
  -- a closed set has what may define what its members may use
  pub flow_closed : IsFlowClosed p a kept
  flow_closed f e h t = closed.closed.flows e ((are e).1 (graph.flow f h)) h.labelled t

  -- ---- an actual of a call has the call

  module _ (f i : ℕ) where
    -- a statement with an actual is a call
    calls : (d : Doing) (s : Slot) (k : VertexKind) → (k ≡ kind.ActualIn i s) ⊎ (k ≡ kind.ActualOut i s) → IsIn (doing_vertices p a.effects d) k → IsIn (doing_vertices p a.effects d) (kind.Call i)
    calls (doing.Does j x) s k (inl e) (inl h) = let q : kind.Statement j ≡ kind.ActualIn i s = h ∙ e in absurd cc
    calls (doing.Does j x) s k (inr e) (inl h) = let q : kind.Statement j ≡ kind.ActualOut i s = h ∙ e in absurd cc
    calls (doing.Does j x) s k o (inr h) = absurd h
    calls (doing.Calls j to g args) s k o h =
        let same : j ≡ i = some_same (sym (doing_kind p a.effects (doing.Calls j to g args) k h) ∙ number s k o) in inl (ap kind.Call same)
      where
        number : (s : Slot) (k : VertexKind) → (k ≡ kind.ActualIn i s) ⊎ (k ≡ kind.ActualOut i s) → of_kind k ≡ Some i
        number s k (inl e) = ap of_kind e
        number s k (inr e) = ap of_kind e

    actual_passes : (s : Slot) (k : VertexKind) → (k ≡ kind.ActualIn i s) ⊎ (k ≡ kind.ActualOut i s) → (is_actual i k ≡ true) × (of_kind k ≡ Some i)
    actual_passes s k (inl e) = (ap (is_actual i) e ∙ eq-eqb i i refl, ap of_kind e)
    actual_passes s k (inr e) = (ap (is_actual i) e ∙ eq-eqb i i refl, ap of_kind e)

    -- the call of a kept actual is kept
    call_kept : (g n : ℕ) (s : Slot) (k : VertexKind) → f < length p.functions → (k ≡ kind.ActualIn i s) ⊎ (k ≡ kind.ActualOut i s) → IsVertex (vertices_of p a) f k n → IsTrue (has kept n) → keeps_vertex p a kept (Calling f i g) ≡ true
    call_kept g n s k low o is t =
        let passes = actual_passes s k o in
        let d = statement_kind p a.effects f k i passes.1 (kind_of p a f k n is) in
        let c = vertex_of p a f (kind.Call i) low (statement_there p a.effects f d.doing (kind.Call i) d.member (calls d.doing s k o d.has)) in
        let from : Contains (numbers (is_own i) f (vertices_of p a)) c.0 = contains_of_in (numbers (is_own i) f (vertices_of p a)) c.0 (number_there p a (is_own i) f c.0 (kind.Call i) c.1 (eq-eqb i i refl)) in
        let to : Contains (numbers (is_actual i) f (vertices_of p a)) n = contains_of_in (numbers (is_actual i) f (vertices_of p a)) n (number_there p a (is_actual i) f n k is passes.0) in
        let led = (are (edge c.0 n label.Control)).1 (graph.control f (actual i refl from to)) in
        passes_any (λ (m : ℕ). has kept m) (numbers (is_call i) f (vertices_of p a)) c.0 (number_there p a (is_call i) f c.0 (kind.Call i) c.1 (eq-eqb i i refl)) (closed.closed.controls (edge c.0 n label.Control) led refl t)

    pub call_of_out : (g : ℕ) (l : Location) → f < length p.functions → keeps_vertex p a kept (ActualOut f i g l) ≡ true → keeps_vertex p a kept (Calling f i g) ≡ true
    call_of_out g l low e =
        let test : VertexKind → Bool = (λ k. comes_out i k && kind_defines p a.points f k l) in
        let w = passing (λ (n : ℕ). has kept n) (numbers test f (vertices_of p a)) e in
        let k = kind_there p a test f w.number w.member in
        let both = and_parts (comes_out i k.kind) (kind_defines p a.points f k.kind l) k.passing in
        let s = out_is i k.kind both.0 in
        call_kept g w.number (At s.0) k.kind low (inr s.1) k.is w.passes

    pub call_of_result : (g : ℕ) → f < length p.functions → keeps_vertex p a kept (ResultOut f i g) ≡ true → keeps_vertex p a kept (Calling f i g) ≡ true
    call_of_result g low e =
        let w = passing (λ (n : ℕ). has kept n) (numbers (gives_result i) f (vertices_of p a)) e in
        let k = kind_there p a (gives_result i) f w.number w.member in
        call_kept g w.number Result k.kind low (inr (result_is i k.kind k.passing)) k.is w.passes

  -- ---- a call of g by statement i of f

  module _ (f i g : ℕ) (to : Target) (args : List Expr) (member : IsIn (doings_of p f) (doing.Calls i to g args)) (low : f < length p.functions) (there : g < length p.functions) where
    call_at : (c : ℕ) → IsVertex (vertices_of p a) f (kind.Call i) c → IsCall p (vertices_of p a) f i g c
    call_at c is = record { target = to; args = args; member = contains_of_in (doings_of p f) (doing.Calls i to g args) member; at = is }

    own_call : (c : ℕ) × IsVertex (vertices_of p a) f (kind.Call i) c
    own_call = vertex_of p a f (kind.Call i) low (statement_there p a.effects f (doing.Calls i to g args) (kind.Call i) member (inl refl))

    in_place : (o : Option Doing) (n : ℕ) (l : Location) → actual_uses p a.points f o (At n) l ≡ slot_places p a.points f (At n) l
    in_place None n l = refl
    in_place (Some (doing.Does j x)) n l = refl
    in_place (Some (doing.Calls j t h es)) n l = refl

    out_place : (o : Option Doing) (n : ℕ) (l : Location) → out_defines p a.points f o (At n) l ≡ slot_places p a.points f (At n) l
    out_place None n l = refl
    out_place (Some (doing.Does j x)) n l = refl
    out_place (Some (doing.Calls j t h es)) n l = refl

    -- a location's slot that goes into g goes into the call
    passed_slot : (n : ℕ) → IsIn (arguments_from 0 (parameters p g) ++ slots_of p a.effects (touched p a.effects g)) (At n) → IsIn (slots_of p a.effects (touched p a.effects g)) (At n)
    passed_slot n h = elim (in_either (arguments_from 0 (parameters p g)) (slots_of p a.effects (touched p a.effects g)) (At n) h) [
      | inl x ↦ absurd (no_argument 0 (parameters p g) x)
      | inr y ↦ y
    ]
      where
        no_argument : (m : ℕ) (xs : List ℕ) → IsIn (arguments_from m xs) (At n) → ⊥
        no_argument m [] h = h
        no_argument m (x ∷ xs) (inl e) = let q : Argument m ≡ At n = e in absurd cc
        no_argument m (x ∷ xs) (inr h) = no_argument (suc m) xs h

    -- at a kept call the actual-in of a kept formal-in is kept
    pub actual_in_kept : (l : Location) → is_outside p l ≡ true → keeps_vertex p a kept (Calling f i g) ≡ true → keeps_vertex p a kept (FormalIn g l) ≡ true → keeps_vertex p a kept (ActualIn f i g l) ≡ true
    actual_in_kept l out call formal =
        let test : VertexKind → Bool = (λ k. takes_in (is_outside p l) k && kind_defines p a.points g k l) in
        let w = passing (λ (n : ℕ). has kept n) (numbers test g (vertices_of p a)) formal in
        let k = kind_there p a test g w.number w.member in
        let both = and_parts (takes_in (is_outside p l) k.kind) (kind_defines p a.points g k.kind l) k.passing in
        let s = place_of k.kind (sym (ap (λ (b : Bool). takes_in b k.kind) out) ∙ both.0) in
        let u : IsVertex (vertices_of p a) g (kind.FormalIn (At s.0)) w.number = subst (λ (q : VertexKind). IsVertex (vertices_of p a) g q w.number) s.1 k.is in
        let slot = passed_slot s.0 (formal_in_slot p a.effects g (At s.0) (kind_of p a g (kind.FormalIn (At s.0)) w.number u)) in
        let passed : IsIn (doing_vertices p a.effects (doing.Calls i to g args)) (kind.ActualIn i (At s.0)) = inr (in_first (map (kind.ActualIn i) (arguments_from 0 args ++ slots_of p a.effects (touched p a.effects g))) (map (kind.ActualOut i) (slots_of p a.effects (a.effects.modified g) ++ target_slots p a.effects to)) (kind.ActualIn i (At s.0)) (in_map (kind.ActualIn i) (arguments_from 0 args ++ slots_of p a.effects (touched p a.effects g)) (At s.0) (in_second (arguments_from 0 args) (slots_of p a.effects (touched p a.effects g)) (At s.0) slot))) in
        let v = vertex_of p a f (kind.ActualIn i (At s.0)) low (statement_there p a.effects f (doing.Calls i to g args) (kind.ActualIn i (At s.0)) member passed) in
        let cw = passing (λ (n : ℕ). has kept n) (numbers (is_call i) f (vertices_of p a)) call in
        let ck = kind_there p a (is_call i) f cw.number cw.member in
        let c : IsVertex (vertices_of p a) f (kind.Call i) cw.number = subst (λ (q : VertexKind). IsVertex (vertices_of p a) f q cw.number) (call_is i ck.kind ck.passing) ck.is in
        let e = edge v.0 w.number (label.In cw.number) in
        let led = (are e).1 (graph.between (graph.in_ f i g cw.number (At s.0) (call_at cw.number c) refl v.1 u)) in
        let is_kept = closed.closed.actual_ins e cw.number led refl cw.passes w.passes in
        let defined : kind_defines p a.points g (kind.FormalIn (At s.0)) l ≡ true = ap (λ (q : VertexKind). kind_defines p a.points g q l) (sym s.1) ∙ both.1 in
        let uses : kind_uses p a.points f (kind.ActualIn i (At s.0)) l ≡ true = in_place (doing_at p f i) s.0 l ∙ defined in
        let passes : VertexKind → Bool = (λ k. passes_in i k && kind_uses p a.points f k l) in
        passes_any (λ (n : ℕ). has kept n) (numbers passes f (vertices_of p a)) v.0 (number_there p a passes f v.0 (kind.ActualIn i (At s.0)) v.1 (and_from (i == i) (kind_uses p a.points f (kind.ActualIn i (At s.0)) l) (eq-eqb i i refl) uses)) is_kept

    -- the formal-out of a kept actual-out is kept
    formal_kept : (l : Location) (n : ℕ) (s : Slot) → IsVertex (vertices_of p a) f (kind.ActualOut i s) n → IsTrue (has kept n) → IsIn (slots_of p a.effects (a.effects.modified g) ++ result_slots p a.effects g) s → slot_places p a.points g s l ≡ true → keeps_vertex p a kept (FormalOut g l) ≡ true
    formal_kept l n s is t inside place =
        let u = vertex_of p a g (kind.FormalOut s) there (formal_out_there p a.effects g s inside) in
        let c = own_call in
        let e = edge u.0 n (label.Out c.0) in
        let led = (are e).1 (graph.between (graph.out f i g c.0 s (call_at c.0 c.1) refl u.1 is)) in
        let is_kept = closed.closed.formal_outs e c.0 led refl t in
        let test : VertexKind → Bool = (λ k. is_formal_out k && kind_uses p a.points g k l) in
        passes_any (λ (m : ℕ). has kept m) (numbers test g (vertices_of p a)) u.0 (number_there p a test g u.0 (kind.FormalOut s) u.1 place) is_kept

    module _ (statements_are : map doing_number (program_doings p) ≡ range_with_len 0 p.statements) where
      -- the slots of actual-outs of locations are those of what g modifies
      modified_slot : (n s : ℕ) → IsVertex (vertices_of p a) f (kind.ActualOut i (At s)) n → IsIn (slots_of p a.effects (a.effects.modified g)) (At s)
      modified_slot n s is =
          let all = call_vertices p a statements_are f i g to args member in
          let w = all.out_is n (number_there p a (comes_out i) f n (kind.ActualOut i (At s)) is (eq-eqb i i refl)) in
          let same : w.0 ≡ kind.ActualOut i (At s) = ap (λ (v : Vertex). v.kind) (some_same (sym w.2 ∙ is)) in
          let t = of_map (kind.ActualOut i) (slots_of p a.effects (a.effects.modified g)) w.0 w.1 in
          subst (IsIn (slots_of p a.effects (a.effects.modified g))) (ap (λ (k : VertexKind). slot_in k t.0) (t.2 ∙ same)) t.1

      pub formal_out_kept : (l : Location) → keeps_vertex p a kept (ActualOut f i g l) ≡ true → keeps_vertex p a kept (FormalOut g l) ≡ true
      formal_out_kept l e =
          let test : VertexKind → Bool = (λ k. comes_out i k && kind_defines p a.points f k l) in
          let w = passing (λ (n : ℕ). has kept n) (numbers test f (vertices_of p a)) e in
          let k = kind_there p a test f w.number w.member in
          let both = and_parts (comes_out i k.kind) (kind_defines p a.points f k.kind l) k.passing in
          let s = out_is i k.kind both.0 in
          let is : IsVertex (vertices_of p a) f (kind.ActualOut i (At s.0)) w.number = subst (λ (q : VertexKind). IsVertex (vertices_of p a) f q w.number) s.1 k.is in
          let placed : slot_places p a.points g (At s.0) l ≡ true = sym (out_place (doing_at p f i) s.0 l) ∙ (ap (λ (q : VertexKind). kind_defines p a.points f q l) (sym s.1) ∙ both.1) in
          formal_kept l w.number (At s.0) is w.passes (in_first (slots_of p a.effects (a.effects.modified g)) (result_slots p a.effects g) (At s.0) (modified_slot w.number s.0 is)) placed

    -- and that of a result, where the function gives one
    pub formal_result_kept : IsIn (result_slots p a.effects g) Result → keeps_vertex p a kept (ResultOut f i g) ≡ true → keeps_vertex p a kept (FormalOut g (result_of g)) ≡ true
    formal_result_kept gives e =
        let w = passing (λ (n : ℕ). has kept n) (numbers (gives_result i) f (vertices_of p a)) e in
        let k = kind_there p a (gives_result i) f w.number w.member in
        let is : IsVertex (vertices_of p a) f (kind.ActualOut i Result) w.number = subst (λ (q : VertexKind). IsVertex (vertices_of p a) f q w.number) (result_is i k.kind k.passing) k.is in
        formal_kept (result_of g) w.number Result is w.passes (in_second (slots_of p a.effects (a.effects.modified g)) (result_slots p a.effects g) Result gives) (location_itself (result_of g))
