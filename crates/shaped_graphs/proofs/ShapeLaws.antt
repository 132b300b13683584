-- The graph of a program in which calls fit the functions that they call is shaped.
use Rattle.std.proofs.Common.{◌≡◌, ◌≢◌, ℕ, suc, ◌<◌, ◌≤◌, ◌==◌, inl, inr, List, [], ◌∷◌, ◌++◌, length, Contains, Bool, true, false, ◌&&◌, not, if◌then◌else◌, refl, sym, ap, ◌∙◌, subst, arith}
use Rattle.std.proofs.lemmas.Bool.Decides.{Decides-eqb}
use Rattle.std.proofs.lemmas.Bool.{and_from}
use Rattle.std.proofs.lemmas.Option.{same_Some}
use Rattle.c_tree.specs.declared.expr.Expr.{Expr}
use Rattle.c_tree.specs.declared.program.Program.{Program}
use Rattle.c_tree.specs.declared.statement.Target.{Target}
use Rattle.c_tree.specs.declared.statement.Target.TheVariants as target
use Rattle.c_language.specs.Mains.{is_main_of}
use Rattle.dep_model.specs.declared.edge.Edge.{Edge}
use Rattle.dep_model.specs.declared.edge.Label.TheVariants as label
use Rattle.dep_model.specs.declared.graph.Graph.{Graph}
use Rattle.dep_model.specs.declared.graph.OutRow.{OutRow}
use Rattle.dep_model.specs.declared.vertex.Slot.{Slot}
use Rattle.dep_model.specs.declared.vertex.Slot.TheVariants.{Argument, Result}
use Rattle.dep_model.specs.declared.vertex.Vertex.{Vertex}
use Rattle.dep_model.specs.declared.vertex.VertexKind.{VertexKind}
use Rattle.dep_model.specs.declared.vertex.VertexKind.TheVariants.{Entry, FormalIn, FormalOut, Call, ActualIn, ActualOut}
use Rattle.dep_model.specs.Doings.{Doing, Does, Calls, doing_number, doings_of}
use Rattle.dep_model.specs.EdgeOrder.{AreAscendingEdges}
use Rattle.dep_model.specs.FunctionVertices.{is_own, is_actual, passes, numbers, IsControlIn}
use Rattle.dep_model.specs.FunctionVertices as order
use Rattle.dep_model.specs.Graphs.{edge, HasRows, IsGraph}
use Rattle.dep_model.specs.MayPoint.{parameters}
use Rattle.dep_model.specs.Shapes.{IsShaped, IsFitting, IsCallOf, HasActualIn, HasFormalOut, IsActual}
use Rattle.dep_model.specs.Shapes as shapes
use Rattle.dep_model.specs.SystemGraph.{Analysis, vertices_of, IsVertex, IsCall, IsCallEdge, IsFlowIn, IsSystemEdge, AreSystemEdges}
use Rattle.dep_model.specs.SystemGraph as system
use Rattle.dep_model.specs.VertexOrder.{in_function, has_result, slots_of, touched, result_slots, target_slots, arguments_from, doing_vertices}
use Rattle.dep_model.proofs.EntryLaws.{entry_one}
use Rattle.dep_model.proofs.Membership.{IsIn, in_of_contains, contains_of_in, in_first, in_second, in_either, in_map}
use Rattle.dep_model.proofs.VertexNumbers.{passes_numbers}
use Rattle.sdg.proofs.InFunction.{control_in, flow_in}
use Rattle.shaped_graphs.proofs.KindLaws.{AreApart, OfDoing, in_slots, out_slots, formal_in_of, formal_out_of, statement_of, entry_there, statement_there, formal_out_there, call_doing, out_doing, one_doing, actual_in_once}
use Rattle.shaped_graphs.proofs.KindLaws as kinds
use Rattle.shaped_graphs.proofs.VertexLaws.{consecutive, kind_of, vertex_of, one_vertex}

-- each call is of a function of the program, with an argument for each of its parameters; one that stores a result is of a function that
-- gives one, and not of main; and no two statements of a function have one number
pub record CallsFit (p : Program) : Type 0 where
  pub apart : (f : ℕ) → AreApart (doings_of p f)
  pub there : (f i : ℕ) (to : Target) (g : ℕ) (args : List Expr) → IsIn (doings_of p f) (Calls i to g args) → g < length p.functions
  pub inside : (f : ℕ) (d : Doing) → IsIn (doings_of p f) d → f < length p.functions
  pub counted : (f i : ℕ) (to : Target) (g : ℕ) (args : List Expr) → IsIn (doings_of p f) (Calls i to g args) → length args ≡ length (parameters p g)
  pub gives : (f i : ℕ) (to : Target) (g : ℕ) (args : List Expr) → IsIn (doings_of p f) (Calls i to g args) → to ≢ target.None → (has_result p g && not (is_main_of p g)) ≡ true

same_arguments : {A B : Type 0} (k : ℕ) (as_ : List A) (bs : List B) → length as_ ≡ length bs → arguments_from k as_ ≡ arguments_from k bs
same_arguments k [] [] e = refl
same_arguments k [] (b ∷ bs) e = cc
same_arguments k (a ∷ as_) [] e = cc
same_arguments k (a ∷ as_) (b ∷ bs) e = let n : length as_ ≡ length bs = omega (arith, e) in ap (λ xs. Argument k ∷ xs) (same_arguments (suc k) as_ bs n)

module _ (vs : List Vertex) (f i v : ℕ) (k m : VertexKind) (p : IsVertex vs f k v) (q : IsVertex vs i m v) where
  same_vertex : in_function f k ≡ in_function i m
  same_vertex = same_Some _ _ (sym p ∙ q)

  same_function : f ≡ i
  same_function = ap (λ (x : Vertex). x.function) same_vertex

  same_kind : k ≡ m
  same_kind = ap (λ (x : Vertex). x.kind) same_vertex

-- ---- the graph of a program

module _ (p : Program) (a : Analysis) (fit : CallsFit p) (edges : List Edge) (exact : AreSystemEdges p a edges) where
  abbrev vs : List Vertex
  vs = vertices_of p a

  there_is : (e : Edge) → IsCallEdge p vs e → Contains edges e
  there_is e h = (exact e).1 (system.between h)

  -- an edge between functions, by its label
  by_label : (e : Edge) → (e.label ≡ label.Control → ⊥) → (e.label ≡ label.Flow → ⊥) → Contains edges e → IsCallEdge p vs e
  by_label e not_control not_flow m = elim ((exact e).0 m) [
    | system.control f c ↦ absurd (not_control (control_label f e c))
    | system.flow f w ↦ absurd (not_flow w.labelled)
    | system.between b ↦ b
  ]
    where
      control_label : (f : ℕ) (e : Edge) → IsControlIn p vs f e → e.label ≡ label.Control
      control_label f e (order.nested c i labelled controls from to) = labelled
      control_label f e (order.formal labelled from to) = labelled
      control_label f e (order.actual i labelled from to) = labelled

  is_called : (c entry : ℕ) → Contains edges (edge c entry (label.Call c)) → (f : ℕ) × (i : ℕ) × (to : ℕ) × IsCall p vs f i to c × IsVertex vs to Entry entry
  is_called c entry m = by_case (by_label (edge c entry (label.Call c)) (λ q. absurd cc) (λ q. absurd cc) m)
    where
      by_case : IsCallEdge p vs (edge c entry (label.Call c)) → (f : ℕ) × (i : ℕ) × (to : ℕ) × IsCall p vs f i to c × IsVertex vs to Entry entry
      by_case (system.call f i to is labelled at) = (f, i, to, is, at)
      by_case (system.in_ f i to d slot is labelled from at) = absurd cc
      by_case (system.out f i to d slot is labelled from at) = absurd cc

  member_of : (f i to c : ℕ) (is : IsCall p vs f i to c) → IsIn (doings_of p f) (Calls i is.target to is.args)
  member_of f i to c is = in_of_contains (doings_of p f) (Calls i is.target to is.args) is.member

  abbrev callee_of : Doing → ℕ
  callee_of (Does i x) = 0
  callee_of (Calls i to g args) = g

  abbrev target_of : Doing → Target
  target_of (Does j x) = target.None
  target_of (Calls j t n args) = t

  abbrev number_of_call : VertexKind → ℕ
  number_of_call k = kinds.number_in k 0

  -- two calls at one vertex are of one function
  one_call : (c f i to f' i' to' : ℕ) → IsCall p vs f i to c → IsCall p vs f' i' to' c → to ≡ to'
  one_call c f i to f' i' to' x y =
      let functions : f ≡ f' = same_function vs f f' c (Call i) (Call i') x.at y.at in
      let numbers : i ≡ i' = ap number_of_call (same_kind vs f f' c (Call i) (Call i') x.at y.at) in
      let other : IsIn (doings_of p f) (Calls i' y.target to' y.args) = subst (λ g. IsIn (doings_of p g) (Calls i' y.target to' y.args)) (sym functions) (member_of f' i' to' c y) in
      ap callee_of (one_doing p a.effects (doings_of p f) (Calls i x.target to x.args) (Calls i' y.target to' y.args) (fit.apart f) (member_of f i to c x) other numbers)

  module _ (outs : List OutRow) (words : ℕ) where
    abbrev g : Graph
    g = record { vertices = vs; edges = edges; outs = outs; fact_words = words }

    -- a call has its call edge, and what has one is a call
    pub call_edge : (f i to c : ℕ) → IsCall p vs f i to c → IsCallOf g f i to c
    call_edge f i to c is =
        let entry = vertex_of p a to Entry (fit.there f i is.target to is.args (member_of f i to c is)) (entry_there p a.effects to) in
        record { entry = entry.0; at = is.at; is_entry = entry.1; calls = there_is (edge c entry.0 (label.Call c)) (system.call f i to is refl entry.1) }

    pub its_call : (f i to c : ℕ) → IsCallOf g f i to c → IsCall p vs f i to c
    its_call f i to c h =
        let w = is_called c h.entry h.calls in
        let is : IsCall p vs w.0 w.1 w.2 c = w.3 in
        let functions : w.0 ≡ f = same_function vs w.0 f c (Call w.1) (Call i) is.at h.at in
        let numbers : w.1 ≡ i = ap number_of_call (same_kind vs w.0 f c (Call w.1) (Call i) is.at h.at) in
        let callees : w.2 ≡ to = same_function vs w.2 to h.entry Entry Entry w.4 h.is_entry in
        subst (λ n. IsCall p vs f i n c) callees (subst (λ n. IsCall p vs f n w.2 c) numbers (subst (λ n. IsCall p vs n w.1 w.2 c) functions is))

    fits_in : (e : Edge) → Contains edges e → IsFitting g e
    fits_in e m = elim ((exact e).0 m) [
      | system.control f c ↦ let w = control_in p vs f e c in shapes.inside f w.0.kind w.1.kind (inl (control_label f e c)) w.0.at w.1.at
      | system.flow f h ↦ let w = flow_in p vs f a.points e h in shapes.inside f w.0.kind w.1.kind (inr h.labelled) w.0.at w.1.at
      | system.between b ↦ by_case b
    ]
      where
        control_label : (f : ℕ) (e : Edge) → IsControlIn p vs f e → e.label ≡ label.Control
        control_label f e (order.nested c i labelled controls from to) = labelled
        control_label f e (order.formal labelled from to) = labelled
        control_label f e (order.actual i labelled from to) = labelled

        by_case : IsCallEdge p vs e → IsFitting g e
        by_case (system.call f i to is labelled at) = shapes.call f i to labelled is.at at
        by_case (system.in_ f i to c slot is labelled from at) = shapes.in_ f i to c slot (call_edge f i to c is) labelled from at
        by_case (system.out f i to c slot is labelled from at) = shapes.out f i to c slot (call_edge f i to c is) labelled from at

    -- a call vertex is of a call statement
    callee : (f i c : ℕ) → IsVertex vs f (Call i) c → (to : ℕ) × IsCallOf g f i to c
    callee f i c at =
        let of = statement_of p a.effects f (Call i) refl (kind_of p a f (Call i) c at) in
        let is = call_doing p a.effects of.doing i of.has in
        let member : IsIn (doings_of p f) (Calls i is.target is.callee is.args) = subst (IsIn (doings_of p f)) is.is of.member in
        (is.callee, call_edge f i is.callee c (record { target = is.target; args = is.args; member = contains_of_in (doings_of p f) (Calls i is.target is.callee is.args) member; at = at }))

    one_callee : (c u v : ℕ) → Contains edges (edge c u (label.Call c)) → Contains edges (edge c v (label.Call c)) → u ≡ v
    one_callee c u v m n =
        let x = is_called c u m in
        let y = is_called c v n in
        let same : x.2 ≡ y.2 = one_call c x.0 x.1 x.2 y.0 y.1 y.2 x.3 y.3 in
        entry_one p a y.2 u v (subst (λ f. IsVertex vs f Entry u) same x.4) y.4

    actual_ins : (f i to c : ℕ) (slot : Slot) (u : ℕ) → IsCallOf g f i to c → IsVertex vs to (FormalIn slot) u → HasActualIn g f i c slot u
    actual_ins f i to c slot u h at =
        let is = its_call f i to c h in
        let member = member_of f i to c is in
        let d = Calls i is.target to is.args in
        let of : IsIn (arguments_from 0 (parameters p to) ++ slots_of p a.effects (touched p a.effects to)) slot = formal_in_of p a.effects to slot (kind_of p a to (FormalIn slot) u at) in
        let slots : arguments_from 0 is.args ≡ arguments_from 0 (parameters p to) = same_arguments 0 is.args (parameters p to) (fit.counted f i is.target to is.args member) in
        let slot_in : IsIn (in_slots p a.effects to is.args) slot = subst (λ xs. IsIn (xs ++ slots_of p a.effects (touched p a.effects to)) slot) (sym slots) of in
        let kind_in : IsIn (doing_vertices p a.effects d) (ActualIn i slot) = inr (in_first _ _ (ActualIn i slot) (in_map (ActualIn i) (in_slots p a.effects to is.args) slot slot_in)) in
        let actual = vertex_of p a f (ActualIn i slot) (fit.inside f d member) (statement_there p a.effects f d (ActualIn i slot) member kind_in) in
        record {
          actual = actual.0;
          at = actual.1;
          enters = there_is (edge actual.0 u (label.In c)) (system.in_ f i to c slot is refl actual.1 at);
          one = λ v other. one_vertex p a f (ActualIn i slot) v actual.0 (actual_in_once p a.effects f i slot (fit.apart f)) other actual.1;
        }

    formal_outs : (f i to c : ℕ) (slot : Slot) (v : ℕ) → IsCallOf g f i to c → IsVertex vs f (ActualOut i slot) v → HasFormalOut g to c slot v
    formal_outs f i to c slot v h at =
        let is = its_call f i to c h in
        let member = member_of f i to c is in
        let d = Calls i is.target to is.args in
        let of = statement_of p a.effects f (ActualOut i slot) refl (kind_of p a f (ActualOut i slot) v at) in
        let out = out_doing p a.effects of.doing i slot of.has in
        let same : of.doing ≡ d = one_doing p a.effects (doings_of p f) of.doing d (fit.apart f) of.member member (ap doing_number out.0.is) in
        let calls : Calls i out.0.target out.0.callee out.0.args ≡ d = sym out.0.is ∙ same in
        let slot_in : IsIn (out_slots p a.effects to is.target) slot = subst (λ t. IsIn (out_slots p a.effects to t) slot) (ap target_of calls) (subst (λ n. IsIn (out_slots p a.effects n out.0.target) slot) (ap callee_of calls) out.1) in
        let formal_in : IsIn (slots_of p a.effects (a.effects.modified to) ++ result_slots p a.effects to) slot = elim (in_either (slots_of p a.effects (a.effects.modified to)) (target_slots p a.effects is.target) slot slot_in) [
          | inl b ↦ in_first (slots_of p a.effects (a.effects.modified to)) (result_slots p a.effects to) slot b
          | inr b ↦ in_second (slots_of p a.effects (a.effects.modified to)) (result_slots p a.effects to) slot (given is.target b (fit.gives f i is.target to is.args member))
        ] in
        let formal = vertex_of p a to (FormalOut slot) (fit.there f i is.target to is.args member) (formal_out_there p a.effects to slot formal_in) in
        record { formal = formal.0; at = formal.1; leaves = there_is (edge formal.0 v (label.Out c)) (system.out f i to c slot is refl formal.1 at) }
      where
        given_result : (b : Bool) → b ≡ true → IsIn (if b then Result ∷ [] else []) Result
        given_result true e = inl refl
        given_result false e = cc

        given : (t : Target) → IsIn (target_slots p a.effects t) slot → (t ≢ target.None → (has_result p to && not (is_main_of p to)) ≡ true) → IsIn (result_slots p a.effects to) slot
        given target.None b gives = absurd b
        given (target.Place e) (inl q) gives = subst (IsIn (result_slots p a.effects to)) q (given_result (has_result p to && not (is_main_of p to)) (gives (λ z. absurd cc)))
        given (target.Place e) (inr b) gives = absurd b
        given (target.Declared x) (inl q) gives = subst (IsIn (result_slots p a.effects to)) q (given_result (has_result p to && not (is_main_of p to)) (gives (λ z. absurd cc)))
        given (target.Declared x) (inr b) gives = absurd b

    actual_outs : (f i to c : ℕ) (slot : Slot) (u : ℕ) → IsCallOf g f i to c → IsVertex vs to (FormalOut slot) u → slot ≢ Result → (v : ℕ) × IsVertex vs f (ActualOut i slot) v
    actual_outs f i to c slot u h at not_result =
        let is = its_call f i to c h in
        let member = member_of f i to c is in
        let d = Calls i is.target to is.args in
        let of = formal_out_of p a.effects to slot (kind_of p a to (FormalOut slot) u at) in
        let slot_in : IsIn (slots_of p a.effects (a.effects.modified to)) slot = elim (in_either (slots_of p a.effects (a.effects.modified to)) (result_slots p a.effects to) slot of) [
          | inl b ↦ b
          | inr b ↦ absurd (no_result (has_result p to && not (is_main_of p to)) b)
        ] in
        let out_in : IsIn (out_slots p a.effects to is.target) slot = in_first (slots_of p a.effects (a.effects.modified to)) (target_slots p a.effects is.target) slot slot_in in
        let kind_in : IsIn (doing_vertices p a.effects d) (ActualOut i slot) = inr (in_second _ _ (ActualOut i slot) (in_map (ActualOut i) (out_slots p a.effects to is.target) slot out_in)) in
        vertex_of p a f (ActualOut i slot) (fit.inside f d member) (statement_there p a.effects f d (ActualOut i slot) member kind_in)
      where
        no_result : (b : Bool) → IsIn (if b then Result ∷ [] else []) slot → ⊥
        no_result true (inl q) = not_result (sym q)
        no_result true (inr k) = k
        no_result false k = k

    actuals : (f i c v : ℕ) → IsVertex vs f (Call i) c → IsActual vs f i v → Contains edges (edge c v label.Control)
    actuals f i c v at of =
        (exact (edge c v label.Control)).1 (system.control f (order.actual i refl (passes_numbers (is_own i) f vs c (record { one = in_function f (Call i); at = at; passing = and_from (f == f) (i == i) (own_number f) (own_number i) })) (to_actual of)))
      where
        own_number : (n : ℕ) → (n == n) ≡ true
        own_number n = (Decides-eqb n n).1 refl

        to_actual : IsActual vs f i v → Contains (numbers (is_actual i) f vs) v
        to_actual (shapes.goes_in slot h) = passes_numbers (is_actual i) f vs v (record { one = in_function f (ActualIn i slot); at = h; passing = and_from (f == f) (i == i) (own_number f) (own_number i) })
        to_actual (shapes.comes_out slot h) = passes_numbers (is_actual i) f vs v (record { one = in_function f (ActualOut i slot); at = h; passing = and_from (f == f) (i == i) (own_number f) (own_number i) })

    pub shaped : AreAscendingEdges edges → HasRows g → length vs ≤ 65536 → words ≤ 262144 → IsShaped g
    shaped ascending rows few few_words = record {
      consecutive = consecutive p a;
      fitting = fits_in;
      callee = callee;
      one_callee = one_callee;
      actual_ins = actual_ins;
      formal_outs = formal_outs;
      actual_outs = actual_outs;
      actuals = actuals;
      ascending = ascending;
      rows_are = rows;
      few_vertices = few;
      few_words = few_words;
    }

pub graph_is_shaped : (p : Program) (a : Analysis) (g : Graph) → CallsFit p → IsGraph p a g → length g.vertices ≤ 65536 → g.fact_words ≤ 262144 → IsShaped g
graph_is_shaped p a g fit is few few_words =
    subst (λ xs. HasRows (record { vertices = xs; edges = g.edges; outs = g.outs; fact_words = g.fact_words }) → length xs ≤ 65536 → IsShaped (record { vertices = xs; edges = g.edges; outs = g.outs; fact_words = g.fact_words })) (sym is.vertices_are)
    (λ rows low. shaped p a fit g.edges is.edges_are g.outs g.fact_words is.ascending rows low few_words) is.rows_are few
