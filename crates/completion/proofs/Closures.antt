-- The rules of a program's graph are within sets of its vertices, and what they derive is the completion.
use Rattle.std.proofs.Common.{◌≡◌, ℕ, ◌<◌, ◌↔◌, inl, inr, Bool, true, false, List, [], ◌∷◌, ◌++◌, length, set, map, slice_get, Some, None, Option, Contains, All, refl, sym, ap, ◌∙◌, subst}
use Rattle.std.specs.Prelude.{IsTrue}
use Rattle.std.specs.Option.{option_map_or}
use Rattle.std.proofs.lemmas.Bool.{false≢true}
use Rattle.std.proofs.lemmas.Option.{slice_get_within}
use Rattle.std.proofs.lemmas.List.{length-set}
use Rattle.std.proofs.lemmas.List.Elements.{Contains-append_cases}
use Rattle.bit_rows.specs.Sets.{has}
use Rattle.rule_closure.specs.declared.closure.Rule.{Rule}
use Rattle.rule_closure.specs.Rules.{Derived, IsRuleWithin}
use Rattle.rule_closure.proofs.ListLemmas.{contains_map}
use Rattle.c_tree.specs.declared.program.Program.{Program}
use Rattle.dep_model.specs.declared.edge.Edge.{Edge}
use Rattle.dep_model.specs.declared.edge.Label.{Label}
use Rattle.dep_model.specs.declared.edge.Label.TheVariants.{Control, Flow, Call, In, Out}
use Rattle.dep_model.specs.declared.graph.Graph.{Graph}
use Rattle.dep_model.specs.declared.location.Location.{Location}
use Rattle.dep_model.specs.declared.vertex.Vertex.{Vertex}
use Rattle.dep_model.specs.declared.vertex.VertexKind.{VertexKind}
use Rattle.dep_model.specs.declared.vertex.VertexKind.TheVariants as kind
use Rattle.dep_model.specs.Completion.{IsCompletion}
use Rattle.dep_model.specs.Denoted.{Places}
use Rattle.dep_model.specs.FunctionVertices.{IsControlIn, numbers, controller_vertices}
use Rattle.dep_model.specs.FunctionVertices as functions
use Rattle.dep_model.specs.Graphs.{IsGraphOf}
use Rattle.dep_model.specs.NamedParameters.{NamesParameter}
use Rattle.dep_model.specs.SystemGraph.{Analysis, vertices_of, places_at, IsFlowIn, IsVertex, IsCallEdge, IsSystemEdge, AreSystemEdges}
use Rattle.dep_model.specs.SystemGraph as system
use Rattle.dep_model.specs.VertexOrder.{in_function, vertex_effects}
use Rattle.dep_model.proofs.CompletionLemmas.{AreNames, completion_from_rules}
use Rattle.dep_model.proofs.CompletionLemmas as lemmas
use Rattle.dep_model.proofs.VertexNumbers.{numbers_pass}
use Rattle.completion.specs.Closing.{rule_at, rule_of}
use Rattle.completion.specs.NameRules.{AreNameRules, name_rules}
use Rattle.completion.proofs.Members.{all_of}
use Rattle.completion.proofs.NameLaws.{name_rules_are, name_rules_one}

-- ---- the rule of an edge
rule_same : (u v : ℕ) (l : Label) → rule_at u v l ≡ lemmas.rule_at u v l
rule_same u v Control = refl
rule_same u v Flow = refl
rule_same u v (Call c) = refl
rule_same u v (In c) = refl
rule_same u v (Out c) = refl

rules_same : (edges : List Edge) → map rule_of edges ≡ map lemmas.rule_of edges
rules_same [] = refl
rules_same (e ∷ edges) = ap (λ r. r ∷ map rule_of edges) (rule_same e.from e.to e.label) ∙ ap (λ rs. lemmas.rule_of e ∷ rs) (rules_same edges)

pub are_names : (p : Program) (vs : List Vertex) (names : List Rule) → AreNameRules p vs names → AreNames (NamesParameter p vs) names
are_names p vs names are = record { all = are.all; only = are.only }

-- ---- the numbers of the rules
pub record EndsBelow (n : ℕ) (e : Edge) : Type 0 where
  pub from_in : e.from < n
  pub to_in : e.to < n
  pub call_in : (c : ℕ) → e.label ≡ In c → c < n

module _ (vs : List Vertex) where
  at_below : (f : ℕ) (k : VertexKind) (v : ℕ) → IsVertex vs f k v → v < length vs
  at_below f k v h = slice_get_within vs v (in_function f k) h

  number_below : (test : VertexKind → Bool) (f v : ℕ) → Contains (numbers test f vs) v → v < length vs
  number_below test f v c = let w = numbers_pass test f vs v c in slice_get_within vs v w.one w.at

  controller_below : (f : ℕ) (i : Option ℕ) (v : ℕ) → Contains (controller_vertices vs f i) v → v < length vs
  controller_below f None v c = number_below functions.is_entry f v c
  controller_below f (Some i) v c = number_below (functions.is_own i) f v c

  place_below : (places : Vertex → Places) (v : ℕ) (l : Location) → places_at places vs v l ≡ true → v < length vs
  place_below places v l h = by_vertex (slice_get vs v) refl h
    where
      by_vertex : (o : Option Vertex) → slice_get vs v ≡ o → option_map_or (λ (x : Vertex). places x l) o false ≡ true → v < length vs
      by_vertex None e h = absurd (false≢true h)
      by_vertex (Some x) e h = slice_get_within vs v x e

not_in : {l : Label} {n : ℕ} → (l ≡ Control → (c : ℕ) → l ≡ In c → c < n)
not_in e c h = let d : Control ≡ In c = sym e ∙ h in absurd cc

module _ (p : Program) (a : Analysis) where
  abbrev ws : List Vertex
  ws = vertices_of p a

  control_below : (f : ℕ) (e : Edge) → IsControlIn p ws f e → EndsBelow (length ws) e
  control_below f e (functions.nested v i labelled controls from to) = record { from_in = controller_below ws f v e.from from; to_in = number_below ws _ f e.to to; call_in = not_in labelled }
  control_below f e (functions.formal labelled from to) = record { from_in = number_below ws _ f e.from from; to_in = number_below ws _ f e.to to; call_in = not_in labelled }
  control_below f e (functions.actual i labelled from to) = record { from_in = number_below ws _ f e.from from; to_in = number_below ws _ f e.to to; call_in = not_in labelled }

  flow_below : (f : ℕ) (e : Edge) → IsFlowIn p a.points ws f e → EndsBelow (length ws) e
  flow_below f e h = record {
    from_in = place_below ws (vertex_effects p a.points).defines e.from h.flows.location h.flows.defined;
    to_in = place_below ws (vertex_effects p a.points).uses e.to h.flows.location h.flows.used;
    call_in = λ c l. (let d : Flow ≡ In c = sym h.labelled ∙ l in absurd cc);
  }

  call_below : (e : Edge) → IsCallEdge p ws e → EndsBelow (length ws) e
  call_below e (system.call f i to is labelled at) = record {
    from_in = at_below ws f (kind.Call i) e.from is.at;
    to_in = at_below ws to kind.Entry e.to at;
    call_in = λ c l. (let d : Call e.from ≡ In c = sym labelled ∙ l in absurd cc);
  }
  call_below e (system.in_ f i to d slot is labelled from at) = record {
    from_in = at_below ws f (kind.ActualIn i slot) e.from from;
    to_in = at_below ws to (kind.FormalIn slot) e.to at;
    call_in = λ c l. (let same : In d ≡ In c = sym labelled ∙ l in let number : d ≡ c = cc in subst (λ n. n < length ws) number (at_below ws f (kind.Call i) d is.at));
  }
  call_below e (system.out f i to d slot is labelled from at) = record {
    from_in = at_below ws to (kind.FormalOut slot) e.from from;
    to_in = at_below ws f (kind.ActualOut i slot) e.to at;
    call_in = λ c l. (let same : Out d ≡ In c = sym labelled ∙ l in absurd cc);
  }

  edge_below : (e : Edge) → IsSystemEdge p a e → EndsBelow (length ws) e
  edge_below e (system.control f h) = control_below f e h
  edge_below e (system.flow f h) = flow_below f e h
  edge_below e (system.between h) = call_below e h

ends_rule : (n : ℕ) (u v : ℕ) (l : Label) → u < n → v < n → ((c : ℕ) → l ≡ In c → c < n) → IsRuleWithin n (rule_at u v l)
ends_rule n u v Control a b c = record { first_in = b; second_in = b; gives_in = a }
ends_rule n u v Flow a b c = record { first_in = b; second_in = b; gives_in = a }
ends_rule n u v (Call d) a b c = record { first_in = a; second_in = a; gives_in = b }
ends_rule n u v (In d) a b c = record { first_in = c d refl; second_in = b; gives_in = a }
ends_rule n u v (Out d) a b c = record { first_in = b; second_in = b; gives_in = a }

module _ (p : Program) (a : Analysis) (edges : List Edge) (exact : AreSystemEdges p a edges) where
  abbrev size : ℕ
  size = length (vertices_of p a)

  edge_rule_within : (e : Edge) → Contains edges e → IsRuleWithin size (rule_of e)
  edge_rule_within e m = let b = edge_below p a e ((exact e).0 m) in ends_rule size e.from e.to e.label b.from_in b.to_in b.call_in

  name_rule_within : (r : Rule) → Contains (name_rules p (vertices_of p a)) r → IsRuleWithin size r
  name_rule_within r m =
      let w = (name_rules_are p (vertices_of p a)).only r m in
      let first = slice_get_within (vertices_of p a) r.first w.vertex w.at in
      record { first_in = first; second_in = subst (λ k. k < size) (sym (name_rules_one p (vertices_of p a) r m)) first; gives_in = slice_get_within (vertices_of p a) r.gives _ w.formal }

  one_within : (r : Rule) → Contains (map rule_of edges ++ name_rules p (vertices_of p a)) r → IsRuleWithin size r
  one_within r m = elim (Contains-append_cases (map rule_of edges) (name_rules p (vertices_of p a)) r m) [
    | inl k ↦ let w = contains_map rule_of edges r k in subst (IsRuleWithin size) w.2 (edge_rule_within w.0 w.1)
    | inr k ↦ name_rule_within r k
  ]

  -- all rules of the edges of a program, and of its named parameters, are within sets of its vertices
  system_rules_within : All (IsRuleWithin size) (map rule_of edges ++ name_rules p (vertices_of p a))
  system_rules_within = all_of (IsRuleWithin size) (map rule_of edges ++ name_rules p (vertices_of p a)) one_within

  -- and so are they as rules of the closures
  pub lemma_rules_within : All (IsRuleWithin size) (map lemmas.rule_of edges ++ name_rules p (vertices_of p a))
  lemma_rules_within = subst (λ rs. All (IsRuleWithin size) (rs ++ name_rules p (vertices_of p a))) (rules_same edges) system_rules_within

-- all rules are within sets of a graph's size
pub rules_within : (p : Program) (g : Graph) → IsGraphOf p g → All (IsRuleWithin (length g.vertices)) (map rule_of g.edges ++ name_rules p g.vertices)
rules_within p g graph =
    subst (λ vs. All (IsRuleWithin (length vs)) (map rule_of g.edges ++ name_rules p vs)) (sym graph.is_graph.vertices_are)
    (system_rules_within p graph.analysis g.edges graph.is_graph.edges_are)

-- what the rules derive, once main's entry is added, is the completion
pub completion_is : (p : Program) (edges : List Edge) (vs : List Vertex) (names rules : List Rule) (main : ℕ) (x s k : List Bool) → AreNameRules p vs names → rules ≡ map rule_of edges ++ names → main < length x → s ≡ set x main true → length k ≡ length s → ((v : ℕ) → IsTrue (has k v) ↔ Derived rules s v) → IsCompletion edges (NamesParameter p vs) main x k
completion_is p edges vs names rules main x s k are made low added size exact =
    let same : rules ≡ map lemmas.rule_of edges ++ names = made ∙ ap (λ rs. rs ++ names) (rules_same edges) in
    completion_from_rules edges (NamesParameter p vs) main names (are_names p vs names are) x k low (size ∙ ap length added ∙ length-set x main true)
    (λ v. subst (λ y. IsTrue (has k v) ↔ Derived (map lemmas.rule_of edges ++ names) y v) added (subst (λ rs. IsTrue (has k v) ↔ Derived rs s v) same (exact v)))
