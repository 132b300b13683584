-- A set of the vertices of a well-formed program's graph has its completion.
use Rattle.std.proofs.Common.{◌≡◌, ℕ, ◌<◌, inl, inr, List, ◌++◌, map, length, get_or, Bool, refl, sym, subst}
use Rattle.std.specs.Prelude.{Contains, All}
use Rattle.std.proofs.lemmas.List.Elements.{Contains-append_cases, Contains-get_or}
use Rattle.std.proofs.lemmas.Option.{slice_get_within}
use Rattle.c_tree.specs.declared.program.Function.{Function}
use Rattle.c_tree.specs.declared.program.Program.{Program}
use Rattle.c_language.specs.NameRules.{is_main}
use Rattle.c_language.specs.Programs.{IsWellFormed}
use Rattle.rule_closure.specs.declared.closure.Rule.{Rule}
use Rattle.rule_closure.specs.Rules.{IsRuleWithin}
use Rattle.rule_closure.proofs.ListLemmas.{contains_map}
use Rattle.dep_model.specs.declared.edge.Edge.{Edge}
use Rattle.dep_model.specs.declared.edge.Label.{Label}
use Rattle.dep_model.specs.declared.edge.Label.TheVariants.{Control, Flow, Call, In, Out}
use Rattle.dep_model.specs.declared.vertex.Vertex.{Vertex}
use Rattle.dep_model.specs.declared.vertex.VertexKind.TheVariants.{Entry}
use Rattle.dep_model.specs.ClosedSets.{IsMainEntry, IsCompletionIn}
use Rattle.dep_model.specs.NamedParameters.{NamesParameter}
use Rattle.dep_model.specs.SystemGraph.{Analysis, vertices_of, AreSystemEdges}
use Rattle.dep_model.specs.VertexOrder.{in_function}
use Rattle.dep_model.proofs.CompletionLemmas.{rule_at, rule_of, completion_exists}
use Rattle.numbered_texts.proofs.CallsFit.{position_found}
use Rattle.numbered_texts.proofs.HavingMain.{has_main}
use Rattle.shaped_graphs.proofs.KindLaws.{entry_there}
use Rattle.shaped_graphs.proofs.VertexLaws.{vertex_of}
use Rattle.listed_graphs.proofs.NamedParameters.{names, names_are, name_within}
use Rattle.listed_graphs.proofs.SystemEdges.{edge_within}

all_of : {A : Type 0} (P : A → Type 0) (xs : List A) → ((x : A) → Contains xs x → P x) → All P xs
all_of P xs h = λ i d lt. h (get_or xs i d) (Contains-get_or xs i d lt)

rule_within : (n u v : ℕ) (l : Label) → u < n → v < n → ((c : ℕ) → l ≡ In c → c < n) → IsRuleWithin n (rule_at u v l)
rule_within n u v Control low high calls = record { first_in = high; second_in = high; gives_in = low }
rule_within n u v Flow low high calls = record { first_in = high; second_in = high; gives_in = low }
rule_within n u v (Call c) low high calls = record { first_in = low; second_in = low; gives_in = high }
rule_within n u v (In c) low high calls = record { first_in = calls c refl; second_in = high; gives_in = low }
rule_within n u v (Out c) low high calls = record { first_in = high; second_in = high; gives_in = low }

module _ (p : Program) (a : Analysis) (well : IsWellFormed p) where
  abbrev vs : List Vertex
  vs = vertices_of p a

  -- main has an entry
  pub main_there : (v : ℕ) × IsMainEntry p vs v
  main_there =
      let main = has_main p well in
      let found = position_found (λ (f : Function). is_main f.name) p.functions main.0 main.1 in
      let entry = vertex_of p a main.0 Entry (slice_get_within p.functions main.0 found.value found.at) (entry_there p a.effects main.0) in
      (entry.0, record { function = main.0; is_main = main.1; entry = entry.1 })

  abbrev Names : ℕ → ℕ → Type 0
  Names = NamesParameter p vs

  module _ (edges : List Edge) (are : AreSystemEdges p a edges) where
    each_within : (r : Rule) → Contains (map rule_of edges ++ names p vs) r → IsRuleWithin (length vs) r
    each_within r c = elim (Contains-append_cases (map rule_of edges) (names p vs) r c) [
      | inr name ↦ name_within p vs r name
      | inl at ↦
          let w = contains_map rule_of edges r at in
          let e = edge_within p a w.0 ((are w.0).0 w.1) in
          subst (IsRuleWithin (length vs)) w.2 (rule_within (length vs) w.0.from w.0.to w.0.label e.from_in e.to_in e.call_in)
    ]

    pub completion_there : (x : List Bool) → length x ≡ length vs → (k : List Bool) × IsCompletionIn p vs edges x k
    completion_there x long =
        let main = main_there in
        let low : main.0 < length x = subst (λ m. main.0 < m) (sym long) (slice_get_within vs main.0 (in_function main.1.function Entry) main.1.entry) in
        let within : All (IsRuleWithin (length x)) (map rule_of edges ++ names p vs) =
        subst (λ m. All (IsRuleWithin m) (map rule_of edges ++ names p vs)) (sym long) (all_of (IsRuleWithin (length vs)) (map rule_of edges ++ names p vs) each_within) in
        let found = completion_exists edges Names main.0 (names p vs) (names_are p vs) x low within in
        (found.0, record { main = main.0; is_entry = main.1; completes = found.1 })
