-- The edges that were joined are those of the system graph.
use Rattle.std.proofs.Common.{◌≡◌, ℕ, ◌<◌, ◌⊎◌, ◌↔◌, inl, inr, List, [], length, get_or, slice_get, Contains, Some, refl, sym, ap, ◌∙◌, subst, arith}
use Rattle.std.proofs.lemmas.List.Elements.{Contains-get_or}
use Rattle.std.proofs.lemmas.Option.{slice_get-get_or}
use Rattle.c_tree.specs.declared.program.Program.{Program}
use Rattle.dep_model.specs.declared.edge.Edge.{Edge}
use Rattle.dep_model.specs.declared.edge.Label.{Label}
use Rattle.dep_model.specs.declared.edge.Label.TheVariants as label
use Rattle.dep_model.specs.declared.graph.FunctionGraph.{FunctionGraph}
use Rattle.dep_model.specs.declared.graph.OutRow.{OutRow}
use Rattle.dep_model.specs.declared.vertex.Vertex.{Vertex}
use Rattle.dep_model.specs.EdgeOrder.{AreAscendingEdges}
use Rattle.dep_model.specs.Graphs.{edge, IsGraph, out_rows, fact_words}
use Rattle.dep_model.specs.SystemGraph.{Analysis, vertices_of, IsCall, IsCallEdge, call, in_, out, IsFunctionEdge, IsSystemEdge, control, flow, between, AreSystemEdges}
use Rattle.sdg.specs.CallSites.{AreSites, site}
use Rattle.sdg.specs.declared.call_sites.CallSite.{CallSite}
use Rattle.sdg.specs.GraphEdges.{IsPartEdge, IsEdgeOfSites}
use Rattle.sdg.specs.Parts.{AreFunctionGraphs}
use Rattle.sdg.specs.SiteEdges.{IsEdgeAt, to_entry, at_actual}
use Rattle.sdg.proofs.InFunction.{in_a_function, control_in, flow_in}

-- ---- edges at calls

module _ (p : Program) (vs : List Vertex) where
  at_site : (x : CallSite) (c : ℕ) (e : Edge) → IsCall p vs x.function x.statement x.callee c → IsEdgeAt vs x c e → IsCallEdge p vs e
  at_site x c e is (to_entry h) = subst (IsCallEdge p vs) (sym h.is) (call x.function x.statement x.callee is refl h.entry_is)
  at_site x c e is (at_actual u (inl h)) = subst (IsCallEdge p vs) (sym h.is) (in_ x.function x.statement x.callee c h.slot is refl h.actual_is h.formal_is)
  at_site x c e is (at_actual u (inr h)) = subst (IsCallEdge p vs) (sym h.is) (out x.function x.statement x.callee c h.slot is refl h.formal_is h.actual_is)

  labelled_as : (e : Edge) (l : Label) → e.label ≡ l → e ≡ edge e.from e.to l
  labelled_as e l h = ap (edge e.from e.to) h

  pub sites_join : (sites : List CallSite) → AreSites p sites → (e : Edge) → IsEdgeOfSites vs sites e → IsCallEdge p vs e
  sites_join sites are e h =
      let s = (are h.site).0 h.is_site in
      at_site h.site h.at.vertex e (record { target = s.target; args = s.args; member = s.member; at = h.at.is_call }) h.at.edge_is

  pub sites_have : (sites : List CallSite) → AreSites p sites → (e : Edge) → IsCallEdge p vs e → IsEdgeOfSites vs sites e
  sites_have sites are e (call f i to c labelled at) = record {
    site = site f i to;
    is_site = (are (site f i to)).1 (record { target = c.target; args = c.args; member = c.member });
    at = record { vertex = e.from; is_call = c.at; edge_is = to_entry (record { entry = e.to; is = labelled_as e (label.Call e.from) labelled; entry_is = at }) };
  }
  sites_have sites are e (in_ f i to c slot is labelled from at) = record {
    site = site f i to;
    is_site = (are (site f i to)).1 (record { target = is.target; args = is.args; member = is.member });
    at = record {
      vertex = c;
      is_call = is.at;
      edge_is = at_actual e.from (inl (record { slot = slot; formal = e.to; is = labelled_as e (label.In c) labelled; actual_is = from; formal_is = at }));
    };
  }
  sites_have sites are e (out f i to c slot is labelled from at) = record {
    site = site f i to;
    is_site = (are (site f i to)).1 (record { target = is.target; args = is.args; member = is.member });
    at = record {
      vertex = c;
      is_call = is.at;
      edge_is = at_actual e.to (inr (record { slot = slot; formal = e.from; is = labelled_as e (label.Out c) labelled; actual_is = at; formal_is = from }));
    };
  }

-- a list is of the edges of these graphs, and of those at these calls
abbrev pub AreJoined : List Edge → List FunctionGraph → List Vertex → List CallSite → Type 0
AreJoined edges parts vs sites = (e : Edge) → Contains edges e ↔ (IsPartEdge parts e ⊎ IsEdgeOfSites vs sites e)

pub same_joined : (es ds : List Edge) (ps qs : List FunctionGraph) (vs ws : List Vertex) (xs ys : List CallSite) → es ≡ ds → ps ≡ qs → vs ≡ ws → xs ≡ ys → AreJoined es ps vs xs → AreJoined ds qs ws ys
same_joined es ds ps qs vs ws xs ys edges parts vertices sites are =
    subst (λ l. AreJoined l qs ws ys) edges (subst (λ l. AreJoined es l ws ys) parts (subst (λ l. AreJoined es ps l ys) vertices (subst (λ l. AreJoined es ps vs l) sites are)))

-- ---- edges of functions

module _ (p : Program) (a : Analysis) (parts : List FunctionGraph) (are : AreFunctionGraphs p a parts) where
  part_joins : (e : Edge) → IsPartEdge parts e → IsSystemEdge p a e
  part_joins e h =
      let f = h.is_part.0 in
      let at : slice_get parts f ≡ Some h.part = slice_get-get_or parts f h.part h.is_part.1 ∙ ap (λ (g : FunctionGraph). Some g) h.is_part.2 in
      elim (((are.graph_is f h.part at).edges_are e).0 h.has) [ inl c ↦ control f c | inr w ↦ flow f w ]

  function_has : (f : ℕ) (e : Edge) → IsFunctionEdge p a f e → f < length p.functions → IsPartEdge parts e
  function_has f e h low =
      let none : FunctionGraph = record { edges = [] } in
      let inside : f < length parts = let n = are.for_each in omega (arith, n, low) in
      record {
        part = get_or parts f none;
        is_part = Contains-get_or parts f none inside;
        has = ((are.graph_is f (get_or parts f none) (slice_get-get_or parts f none inside)).edges_are e).1 h;
      }

  part_has : (e : Edge) → IsSystemEdge p a e → IsPartEdge parts e ⊎ IsCallEdge p (vertices_of p a) e
  part_has e (control f c) = inl (function_has f e (inl c) (in_a_function p a f e.to (control_in p (vertices_of p a) f e c).1))
  part_has e (flow f w) = inl (function_has f e (inr w) (in_a_function p a f e.to (flow_in p (vertices_of p a) f a.points e w).1))
  part_has e (between b) = inr b

  module _ (sites : List CallSite) (are_sites : AreSites p sites) where
    system_edges : (edges : List Edge) → AreJoined edges parts (vertices_of p a) sites → AreSystemEdges p a edges
    system_edges edges exact e = (
      λ m. elim ((exact e).0 m) [ inl h ↦ part_joins e h | inr h ↦ between (sites_join p (vertices_of p a) sites are_sites e h) ],
      λ h. (exact e).1 (elim (part_has e h) [ inl b ↦ inl b | inr b ↦ inr (sites_have p (vertices_of p a) sites are_sites e b) ]),
    )

    pub is_graph : (vs : List Vertex) (edges : List Edge) (rows : List OutRow) (words : ℕ) → vs ≡ vertices_of p a
        → AreJoined edges parts vs sites → AreAscendingEdges edges → rows ≡ out_rows vs → words ≡ fact_words vs
        → IsGraph p a (record { vertices = vs; edges = edges; outs = rows; fact_words = words })
    is_graph vs edges rows words same exact ascending rows_are words_are = record {
      vertices_are = same;
      ascending = ascending;
      edges_are = system_edges edges (subst (λ xs. AreJoined edges parts xs sites) same exact);
      rows_are = record { outs_are = rows_are; words_are = words_are };
    }
