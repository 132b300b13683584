-- In the shaped graph of a program, the completion of what reaches a criterion has the formal-in of each argument whose actual-in it has:
-- an actual-in gets there only by an edge to its formal-in.
use Rattle.std.proofs.Common.{◌≡◌, ℕ, zero, suc, ◌↔◌, inl, inr, Bool, true, false, List, [], ◌∷◌, ◌++◌, length, map, Some, None, Option, Contains, refl, sym, ap, ◌∙◌, subst}
use Rattle.std.specs.Prelude.{◌==◌, IsTrue, All}
use Rattle.std.specs.Option.{option_map_or}
use Rattle.std.proofs.lemmas.Bool.{false≢true, and_parts}
use Rattle.std.proofs.lemmas.Option.{same_Some}
use Rattle.bit_rows.specs.Sets.{has}
use Rattle.rule_closure.specs.Rules.{IsRuleWithin}
use Rattle.c_tree.specs.declared.program.Program.{Program}
use Rattle.dep_model.specs.declared.edge.Edge.{Edge}
use Rattle.dep_model.specs.declared.edge.Label.{Label}
use Rattle.dep_model.specs.declared.edge.Label.TheVariants.{Control, Flow, Call, In, Out}
use Rattle.dep_model.specs.declared.graph.Graph.{Graph}
use Rattle.dep_model.specs.declared.vertex.Slot.TheVariants.{Argument}
use Rattle.dep_model.specs.declared.vertex.Vertex.{Vertex}
use Rattle.dep_model.specs.declared.vertex.VertexKind.{VertexKind}
use Rattle.dep_model.specs.declared.vertex.VertexKind.TheVariants as kind
use Rattle.dep_model.specs.ClosedSets.{IsCompletionIn, IsProjectable}
use Rattle.dep_model.specs.Completion.{Completed}
use Rattle.dep_model.specs.Completion as completion_
use Rattle.dep_model.specs.Criteria.{is_wanted, criterion_of}
use Rattle.dep_model.specs.FunctionVertices.{IsControlIn, numbers, controller_vertices}
use Rattle.dep_model.specs.FunctionVertices as functions
use Rattle.dep_model.specs.Graphs.{IsGraphOf, edge}
use Rattle.dep_model.specs.NamedParameters.{NamesParameter}
use Rattle.dep_model.specs.Shapes.{IsShaped, IsFitting}
use Rattle.dep_model.specs.Shapes as shapes
use Rattle.dep_model.specs.SystemGraph.{Analysis, vertices_of, IsFlowIn, IsVertex, IsCall, IsCallEdge, IsSystemEdge, AreSystemEdges}
use Rattle.dep_model.specs.Words.{ReachesAny}
use Rattle.dep_model.specs.SystemGraph as system
use Rattle.dep_model.specs.VertexOrder.{in_function, kind_defines}
use Rattle.dep_model.proofs.CompletionLemmas.{completed_from_completion}
use Rattle.dep_model.proofs.CompletionLemmas as lemmas
use Rattle.dep_model.proofs.VertexNumbers.{numbers_pass}
use Rattle.completion.specs.Laws.{IsReached, CompletionsAreProjectable}
use Rattle.completion.specs.NameRules.{name_rules}
use Rattle.completion.proofs.Closures.{are_names, lemma_rules_within}
use Rattle.completion.proofs.FormalLaws.{formal_one}
use Rattle.completion.proofs.NameLaws.{name_rules_are}
use Rattle.completion.proofs.WordTails.{first_edge}

-- a vertex has one function and one kind
one_vertex : (vs : List Vertex) (f h : ℕ) (k j : VertexKind) (v : ℕ) → IsVertex vs f k v → IsVertex vs h j v → in_function f k ≡ in_function h j
one_vertex vs f h k j v a b = same_Some _ _ (sym a ∙ b)

one_kind : (vs : List Vertex) (f h : ℕ) (k j : VertexKind) (v : ℕ) → IsVertex vs f k v → IsVertex vs h j v → k ≡ j
one_kind vs f h k j v a b = ap (λ (x : Vertex). x.kind) (one_vertex vs f h k j v a b)

one_function : (vs : List Vertex) (f h : ℕ) (k j : VertexKind) (v : ℕ) → IsVertex vs f k v → IsVertex vs h j v → f ≡ h
one_function vs f h k j v a b = ap (λ (x : Vertex). x.function) (one_vertex vs f h k j v a b)

-- a vertex among those of a test passes it
numbered_kind : (vs : List Vertex) (test : VertexKind → Bool) (f h : ℕ) (k : VertexKind) (v : ℕ) → Contains (numbers test f vs) v → IsVertex vs h k v → test k ≡ true
numbered_kind vs test f h k v c at =
    let w = numbers_pass test f vs v c in
    let same : w.one ≡ in_function h k = same_Some _ _ (sym w.at ∙ at) in
    subst (λ (x : Vertex). test x.kind ≡ true) same (and_parts (w.one.function == f) (test w.one.kind) w.passing).1

module _ (p : Program) (a : Analysis) where
  abbrev ws : List Vertex
  ws = vertices_of p a

  -- an edge from the actual-in of an argument: to the formal-in of that argument, in the function called
  pub record LeavesArgument (e : Edge) (f i k : ℕ) : Type 0 where
    pub call : ℕ
    pub to : ℕ
    pub labelled : e.label ≡ In call
    pub is_call : IsCall p ws f i to call
    pub formal : IsVertex ws to (kind.FormalIn (Argument k)) e.to

  module _ (f i k : ℕ) where
    abbrev actual : VertexKind
    actual = kind.ActualIn i (Argument k)

    no_controller : (h : ℕ) (j : Option ℕ) (v : ℕ) → Contains (controller_vertices ws h j) v → IsVertex ws f actual v → ⊥
    no_controller h None v c at = false≢true (numbered_kind ws functions.is_entry h f actual v c at)
    no_controller h (Some j) v c at = false≢true (numbered_kind ws (functions.is_own j) h f actual v c at)

    no_control : (h : ℕ) (e : Edge) → IsControlIn p ws h e → IsVertex ws f actual e.from → ⊥
    no_control h e (functions.nested v j labelled controls from to) at = no_controller h v e.from from at
    no_control h e (functions.formal labelled from to) at = no_controller h None e.from from at
    no_control h e (functions.actual j labelled from to) at = no_controller h (Some j) e.from from at

    no_flow : (h : ℕ) (e : Edge) → IsFlowIn p a.points ws h e → IsVertex ws f actual e.from → ⊥
    no_flow h e flow at =
        let l = flow.flows.location in
        false≢true (subst (λ (o : Option Vertex). option_map_or (λ (x : Vertex). kind_defines p a.points x.function x.kind l) o false ≡ true) at flow.flows.defined)

    leaves_call : (e : Edge) → IsCallEdge p ws e → IsVertex ws f actual e.from → LeavesArgument e f i k
    leaves_call e (system.call h j to is labelled there) at = let q : kind.Call j ≡ actual = one_kind ws h f (kind.Call j) actual e.from is.at at in absurd cc
    leaves_call e (system.out h j to c slot is labelled from there) at = let q : kind.FormalOut slot ≡ actual = one_kind ws to f (kind.FormalOut slot) actual e.from from at in absurd cc
    leaves_call e (system.in_ h j to c slot is labelled from there) at =
        let q : kind.ActualIn j slot ≡ actual = one_kind ws h f (kind.ActualIn j slot) actual e.from from at in
        let function : h ≡ f = one_function ws h f (kind.ActualIn j slot) actual e.from from at in
        let statement : j ≡ i = cc in
        let same : slot ≡ Argument k = cc in
        record {
          call = c;
          to = to;
          labelled = labelled;
          is_call = subst (λ x. IsCall p ws x i to c) function (subst (λ x. IsCall p ws h x to c) statement is);
          formal = subst (λ s. IsVertex ws to (kind.FormalIn s) e.to) same there;
        }

    leaves : (e : Edge) → IsSystemEdge p a e → IsVertex ws f actual e.from → LeavesArgument e f i k
    leaves e (system.control h c) at = absurd (no_control h e c at)
    leaves e (system.flow h w) at = absurd (no_flow h e w at)
    leaves e (system.between c) at = leaves_call e c at

-- edges from the actual-in of one argument lead to one function
abbrev pub HaveOneCallee : Program → Analysis → List Edge → Type 0
HaveOneCallee p a edges =
    (f i k : ℕ) (e d : Edge) → Contains edges e → Contains edges d → (x : LeavesArgument p a e f i k) (y : LeavesArgument p a d f i k) → x.to ≡ y.to

-- a vertex that is no actual-in of an argument
not_wanted : (set : ℕ → Bool) (vs : List Vertex) (f i k v : ℕ) → IsVertex vs f (kind.ActualIn i (Argument k)) v → IsTrue (has (criterion_of set vs) v) → ⊥
not_wanted set [] f i k v at h = cc
not_wanted set (x ∷ vs) f i k zero at h =
    let same : x ≡ in_function f (kind.ActualIn i (Argument k)) = same_Some _ _ at in false≢true (subst (λ (y : Vertex). is_wanted set y.kind ≡ true) same h)
not_wanted set (x ∷ vs) f i k (suc v) at h = not_wanted set vs f i k v at h

module _ (p : Program) (a : Analysis) (edges : List Edge) (exact : AreSystemEdges p a edges) (one_callee : HaveOneCallee p a edges) where
  abbrev all : List Vertex
  all = vertices_of p a

  is_system : (e : Edge) → Contains edges e → IsSystemEdge p a e
  is_system e m = (exact e).0 m

  -- all edges from the actual-in of an argument lead to one formal-in
  one_formal : (f i k : ℕ) (e d : Edge) → Contains edges e → Contains edges d → IsVertex all f (kind.ActualIn i (Argument k)) e.from → IsVertex all f (kind.ActualIn i (Argument k)) d.from → e.to ≡ d.to
  one_formal f i k e d me md ae ad =
      let x = leaves p a f i k e (is_system e me) ae in
      let y = leaves p a f i k d (is_system d md) ad in
      let callee = one_callee f i k e d me md x y in
      formal_one p a y.to e.to d.to k (subst (λ t. IsVertex all t (kind.FormalIn (Argument k)) e.to) callee x.formal) y.formal

  module _ (set : ℕ → Bool) (reached kept : List Bool) (long : length reached ≡ length all) (reach : (v : ℕ) → IsTrue (has reached v) ↔ ReachesAny edges (criterion_of set all) v) (c : IsCompletionIn p all edges reached kept) where
    abbrev Derived : ℕ → Type 0
    Derived = Completed edges (NamesParameter p all) c.main reached

    derived : (v : ℕ) → IsTrue (has kept v) ↔ Derived v
    derived v =
        completed_from_completion edges (NamesParameter p all) c.main (name_rules p all) (are_names p all (name_rules p all) (name_rules_are p all)) reached kept
        (subst (λ n. All (IsRuleWithin n) (map lemmas.rule_of edges ++ name_rules p all)) (sym long) (lemma_rules_within p a edges exact)) c.completes v

    -- an edge from a vertex to one of the kept
    record LeadsToKept (v : ℕ) : Type 0 where
      leaving : Edge
      member : Contains edges leaving
      from : leaving.from ≡ v
      held : IsTrue (has kept leaving.to)

    from_reached : (f i k v : ℕ) → IsVertex all f (kind.ActualIn i (Argument k)) v → IsTrue (has reached v) → LeadsToKept v
    from_reached f i k v at h = elim (first_edge edges (criterion_of set all) v ((reach v).0 h)) [
      | inl wanted ↦ absurd (not_wanted set all f i k v at wanted)
      | inr l ↦ record { leaving = l.edge; member = l.member; from = l.from; held = c.completes.holds l.edge.to ((reach l.edge.to).1 l.reaches) }
    ]

    module _ (f i k : ℕ) where
      abbrev IsActual : ℕ → Type 0
      IsActual v = IsVertex all f (kind.ActualIn i (Argument k)) v

      only_in : (e : Edge) (l : Label) → Contains edges e → e.label ≡ l → ((d : ℕ) → l ≡ In d → ⊥) → IsActual e.from → LeadsToKept e.from
      only_in e l m is other at = let x = leaves p a f i k e (is_system e m) at in absurd (other x.call (sym is ∙ x.labelled))

      no_entry : (to v : ℕ) → IsVertex all to kind.Entry v → IsActual v → LeadsToKept v
      no_entry to v e at = let q : kind.Entry ≡ kind.ActualIn i (Argument k) = one_kind all to f kind.Entry (kind.ActualIn i (Argument k)) v e at in absurd cc

      between_entry : (e : Edge) (d : ℕ) → IsCallEdge p all e → e.label ≡ Call d → IsActual e.to → LeadsToKept e.to
      between_entry e d (system.call h j t called l to) is at = no_entry t e.to to at
      between_entry e d (system.in_ h j t n slot called l from to) is at = let q : In n ≡ Call d = sym l ∙ is in absurd cc
      between_entry e d (system.out h j t n slot called l from to) is at = let q : Out n ≡ Call d = sym l ∙ is in absurd cc

      call_entry : (e : Edge) (d : ℕ) → IsSystemEdge p a e → e.label ≡ Call d → IsActual e.to → LeadsToKept e.to
      call_entry e d (system.control h (functions.nested v j l controls from to)) is at = let q : Control ≡ Call d = sym l ∙ is in absurd cc
      call_entry e d (system.control h (functions.formal l from to)) is at = let q : Control ≡ Call d = sym l ∙ is in absurd cc
      call_entry e d (system.control h (functions.actual j l from to)) is at = let q : Control ≡ Call d = sym l ∙ is in absurd cc
      call_entry e d (system.flow h w) is at = let q : Flow ≡ Call d = sym w.labelled ∙ is in absurd cc
      call_entry e d (system.between b) is at = between_entry e d b is at

      leads : {v : ℕ} → Derived v → IsActual v → LeadsToKept v
      leads (completion_.seed {v = v} h) at = from_reached f i k v at h
      leads (completion_.control e m q d) at = only_in e Control m q (λ n r. (let s : Control ≡ In n = r in absurd cc)) at
      leads (completion_.flow e m q d) at = only_in e Flow m q (λ n r. (let s : Flow ≡ In n = r in absurd cc)) at
      leads (completion_.formal_out e n m q d) at = only_in e (Out n) m q (λ j r. (let s : Out n ≡ In j = r in absurd cc)) at
      leads (completion_.callee e n m q d) at = call_entry e n (is_system e m) q at
      leads (completion_.actual_in e n m q call d) at = record { leaving = e; member = m; from = refl; held = (derived e.to).1 d }
      leads (completion_.parameter {v = v} {u = u} n d) at =
          let q : kind.FormalIn (Argument n.number) ≡ kind.ActualIn i (Argument k) = one_kind all n.vertex.function f (kind.FormalIn (Argument n.number)) (kind.ActualIn i (Argument k)) u n.formal at in
          absurd cc
      leads completion_.entry at = no_entry c.is_entry.function c.main c.is_entry.entry at

    has_formal : (e : Edge) (n f i k : ℕ) → Contains edges e → e.label ≡ In n → IsVertex all f (kind.ActualIn i (Argument k)) e.from → IsTrue (has kept e.from) → IsTrue (has kept e.to)
    has_formal e n f i k m is at h =
        let w = leads f i k ((derived e.from).0 h) at in
        let same = one_formal f i k w.leaving e w.member m (subst (IsVertex all f (kind.ActualIn i (Argument k))) (sym w.from) at) at in
        subst (λ v. IsTrue (has kept v)) same w.held

    -- by a list of exactly the edges of a program, the completion of what reaches a criterion can be projected
    pub projectable : IsProjectable p all edges kept
    projectable = record {
      closed = record { main = c.main; is_entry = c.is_entry; closed = c.completes.closed };
      arguments = has_formal;
    }

-- ---- in a shaped graph

module _ (p : Program) (g : Graph) (graph : IsGraphOf p g) (shaped : IsShaped g) where
  abbrev analysis : Analysis
  analysis = graph.analysis

  there : (f : ℕ) (k : VertexKind) (v : ℕ) → IsVertex g.vertices f k v → IsVertex (vertices_of p analysis) f k v
  there f k v h = subst (λ vs. IsVertex vs f k v) graph.is_graph.vertices_are h

  -- the entry of the function of a formal-in to which an edge of a call leads
  entered : (e : Edge) (c to : ℕ) (j : VertexKind) → IsFitting g e → e.label ≡ In c → IsVertex (vertices_of p analysis) to j e.to → (n : ℕ) × IsVertex (vertices_of p analysis) to kind.Entry n
  entered e c to j (shapes.inside h x y (inl l) from at) is formal = let q : Control ≡ In c = sym l ∙ is in absurd cc
  entered e c to j (shapes.inside h x y (inr l) from at) is formal = let q : Flow ≡ In c = sym l ∙ is in absurd cc
  entered e c to j (shapes.call h i t l from at) is formal = let q : Call e.from ≡ In c = sym l ∙ is in absurd cc
  entered e c to j (shapes.out h i t d slot o l from at) is formal = let q : Out d ≡ In c = sym l ∙ is in absurd cc
  entered e c to j (shapes.in_ h i t d slot o l from at) is formal =
      let same : t ≡ to = one_function (vertices_of p analysis) t to (kind.FormalIn slot) j e.to (there t (kind.FormalIn slot) e.to at) formal in
      (o.entry, subst (λ x. IsVertex (vertices_of p analysis) x kind.Entry o.entry) same (there t kind.Entry o.entry o.is_entry))

  -- a call vertex has a call edge to the entry of each function that its statement calls
  calls : (f i to c n : ℕ) → IsCall p (vertices_of p analysis) f i to c → IsVertex (vertices_of p analysis) to kind.Entry n → Contains g.edges (edge c n (Call c))
  calls f i to c n is at = (graph.is_graph.edges_are (edge c n (Call c))).1 (system.between (system.call f i to is refl at))

  one_callee : HaveOneCallee p analysis g.edges
  one_callee f i k e d me md x y =
      let n = entered e x.call x.to (kind.FormalIn (Argument k)) (shaped.fitting e me) x.labelled x.formal in
      let m = entered d y.call y.to (kind.FormalIn (Argument k)) (shaped.fitting d md) y.labelled y.formal in
      let is : IsCall p (vertices_of p analysis) f i y.to x.call = record { target = y.is_call.target; args = y.is_call.args; member = y.is_call.member; at = x.is_call.at } in
      let same : n.0 ≡ m.0 = shaped.one_callee x.call n.0 m.0 (calls f i x.to x.call n.0 x.is_call n.1) (calls f i y.to x.call m.0 is m.1) in
      one_function (vertices_of p analysis) x.to y.to kind.Entry kind.Entry m.0 (subst (IsVertex (vertices_of p analysis) x.to kind.Entry) same n.1) m.1

  shaped_projectable : (set : ℕ → Bool) (reached kept : List Bool) → IsReached g set reached → IsCompletionIn p g.vertices g.edges reached kept → IsProjectable p g.vertices g.edges kept
  shaped_projectable set reached kept reach c =
      let same = graph.is_graph.vertices_are in
      subst (λ vs. IsProjectable p vs g.edges kept) (sym same)
      (projectable p analysis g.edges graph.is_graph.edges_are one_callee set reached kept (reach.size ∙ ap length same)
      (subst (λ vs. (v : ℕ) → IsTrue (has reached v) ↔ ReachesAny g.edges (criterion_of set vs) v) same reach.exact)
      (subst (λ vs. IsCompletionIn p vs g.edges reached kept) same c))

pub all_projectable : CompletionsAreProjectable
all_projectable p g set reached kept graph shaped reach c = shaped_projectable p g graph shaped set reached kept reach c
