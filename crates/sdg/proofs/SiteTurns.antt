-- The edges at one call, vertex by vertex of its statement.
use Rattle.std.proofs.Common.{◌≡◌, ℕ, ◌⊎◌, inl, inr, List, Contains}
use Rattle.dep_model.specs.declared.edge.Edge.{Edge}
use Rattle.dep_model.specs.declared.edge.Label.TheVariants as label
use Rattle.dep_model.specs.declared.vertex.Vertex.{Vertex}
use Rattle.dep_model.specs.declared.vertex.VertexKind.TheVariants.{Call}
use Rattle.dep_model.specs.Graphs.{edge}
use Rattle.dep_model.specs.SystemGraph.{IsVertex}
use Rattle.sdg.specs.declared.call_sites.CallSite.{CallSite}
use Rattle.sdg.specs.declared.places.Places.{Places}
use Rattle.sdg.specs.GraphEdges.{IsEdgeOfSites}
use Rattle.sdg.specs.SiteEdges.{Adds, ArePlaces, IsEntryEdge, IsActualEdge, IsEdgeAt, to_entry, at_actual, IsSiteEdge}
use Rattle.sdg.specs.VertexLists.{list_at}
use Rattle.sdg.proofs.AddLemmas.{OneOf, adds_none, adds_both, adds_same}
use Rattle.sdg.proofs.PlaceLaws.{listed_entry, entry_listed, call_listed, actual_in_listed, actual_out_listed}

-- the edge from call c to vertex n
abbrev pub CallsAt : ℕ → ℕ → Edge → Type 0
CallsAt c n e = e ≡ edge c n (label.Call c)

pub entries_all : (vs : List Vertex) (t : Places) (site : CallSite) (c : ℕ) (old new : List Edge) → ArePlaces vs t → Adds old new (OneOf (CallsAt c) (list_at t.entries site.callee)) → Adds old new (IsEntryEdge vs site c)
entries_all vs t site c old new are adds = adds_same old new (OneOf (CallsAt c) (list_at t.entries site.callee)) (IsEntryEdge vs site c) adds (λ e. (
  λ o. record { entry = o.one; is = o.is; entry_is = listed_entry vs t.entries site.callee o.one are.entries_are o.member },
  λ h. record { one = h.entry; member = entry_listed vs t.entries site.callee h.entry are.entries_are h.entry_is; is = h.is },
))

-- an edge at vertex n, where that is the call's
pub record IsCallAt (vs : List Vertex) (site : CallSite) (n : ℕ) (e : Edge) : Type 0 where
  pub is_call : IsVertex vs site.function (Call site.statement) n
  pub edge_is : IsEdgeAt vs site n e

module _ (vs : List Vertex) (t : Places) (site : CallSite) (are : ArePlaces vs t) where
  -- an actual of the call stands in its statement's list
  actual_member : (c u : ℕ) (e : Edge) → IsActualEdge vs site c u e → Contains (list_at t.calls site.statement) u
  actual_member c u e (inl a) = actual_in_listed vs t.calls site.function site.statement u a.slot are.calls_are a.actual_is
  actual_member c u e (inr b) = actual_out_listed vs t.calls site.function site.statement u b.slot are.calls_are b.actual_is

  pub edges_at_call : (c : ℕ) (old mid new : List Edge) → Adds old mid (IsEntryEdge vs site c) → Adds mid new (OneOf (IsActualEdge vs site c) (list_at t.calls site.statement)) → Adds old new (IsEdgeAt vs site c)
  edges_at_call c old mid new first second =
      let both = adds_both old mid new (IsEntryEdge vs site c) (OneOf (IsActualEdge vs site c) (list_at t.calls site.statement)) first second in
      adds_same old new (λ e. IsEntryEdge vs site c e ⊎ OneOf (IsActualEdge vs site c) (list_at t.calls site.statement) e) (IsEdgeAt vs site c) both (λ e. (
        λ h. elim h [ inl a ↦ to_entry a | inr o ↦ at_actual o.one o.is ],
        λ h. elim h [ to_entry a ↦ inl a | at_actual u b ↦ inr (record { one = u; member = actual_member c u e b; is = b }) ],
      ))

  pub call_at : (n : ℕ) (old new : List Edge) → IsVertex vs site.function (Call site.statement) n → Adds old new (IsEdgeAt vs site n) → Adds old new (IsCallAt vs site n)
  call_at n old new here adds = adds_same old new (IsEdgeAt vs site n) (IsCallAt vs site n) adds (λ e. (λ h. record { is_call = here; edge_is = h }, λ h. h.edge_is))

  pub no_call_at : (n : ℕ) (old new : List Edge) → (IsVertex vs site.function (Call site.statement) n → ⊥) → new ≡ old → Adds old new (IsCallAt vs site n)
  no_call_at n old new not same = adds_none old new (IsCallAt vs site n) same (λ e h. not h.is_call)

  pub site_all : (old new : List Edge) → Adds old new (OneOf (IsCallAt vs site) (list_at t.calls site.statement)) → Adds old new (IsSiteEdge vs site)
  site_all old new adds = adds_same old new (OneOf (IsCallAt vs site) (list_at t.calls site.statement)) (IsSiteEdge vs site) adds (λ e. (
    λ o. record { vertex = o.one; is_call = o.is.is_call; edge_is = o.is.edge_is },
    λ h. record { one = h.vertex; member = call_listed vs t.calls site.function site.statement h.vertex are.calls_are h.is_call; is = record { is_call = h.is_call; edge_is = h.edge_is } },
  ))

pub sites_all : (vs : List Vertex) (sites : List CallSite) (old new : List Edge) → Adds old new (OneOf (IsSiteEdge vs) sites) → Adds old new (IsEdgeOfSites vs sites)
sites_all vs sites old new adds = adds_same old new (OneOf (IsSiteEdge vs) sites) (IsEdgeOfSites vs sites) adds (λ e. (
  λ o. record { site = o.one; is_site = o.member; at = o.is },
  λ h. record { one = h.site; member = h.is_site; is = h.at },
))
