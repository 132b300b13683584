-- The edges of the system graph of a well-formed program can be listed, and lead between its vertices.
use Rattle.std.proofs.Common.{◌≡◌, ℕ, ◌<◌, ◌⊎◌, inl, inr, List, length, sym, ◌∙◌, subst}
use Rattle.std.proofs.lemmas.Option.{slice_get_within}
use Rattle.c_tree.specs.declared.program.Program.{Program}
use Rattle.c_language.specs.Programs.{IsWellFormed}
use Rattle.dep_model.specs.declared.edge.Edge.{Edge}
use Rattle.dep_model.specs.declared.edge.Label.{Label}
use Rattle.dep_model.specs.declared.edge.Label.TheVariants.{Control, Flow, Call, In, Out}
use Rattle.dep_model.specs.declared.vertex.Vertex.{Vertex}
use Rattle.dep_model.specs.declared.vertex.VertexKind.{VertexKind}
use Rattle.dep_model.specs.declared.vertex.VertexKind.TheVariants as kind
use Rattle.dep_model.specs.FunctionVertices.{IsControlIn, nested, formal, actual}
use Rattle.dep_model.specs.SystemGraph.{Analysis, vertices_of, IsVertex, IsFunctionEdge, IsFlowIn, IsCallEdge, call, in_, out, IsSystemEdge, control, flow, between}
use Rattle.dep_model.specs.VertexOrder.{in_function}
use Rattle.sdg.proofs.InFunction.{IsIn as IsOf, control_in, flow_in, in_a_function}
use Rattle.listed_graphs.proofs.CallEdges.{call_edges}
use Rattle.listed_graphs.proofs.FunctionEdges.{control_edges, flow_edges}
use Rattle.listed_graphs.proofs.Listings.{Listing, as_same, either, below}

-- an edge's ends are below n, and so is the vertex of its call
pub record IsWithin (n : ℕ) (e : Edge) : Type 0 where
  pub from_in : e.from < n
  pub to_in : e.to < n
  pub call_in : (c : ℕ) → e.label ≡ In c → c < n

module _ (p : Program) (a : Analysis) where
  abbrev vs : List Vertex
  vs = vertices_of p a

  abbrev OfFunction : Edge → Type 0
  OfFunction e = (f : ℕ) × (f < length p.functions) × IsFunctionEdge p a f e

  by_part : (e : Edge) → IsSystemEdge p a e → OfFunction e ⊎ IsCallEdge p vs e
  by_part e (control f c) = inl (f, in_a_function p a f e.to (control_in p vs f e c).1, inl c)
  by_part e (flow f w) = inl (f, in_a_function p a f e.to (flow_in p vs f a.points e w).1, inr w)
  by_part e (between b) = inr b

  of_part : (e : Edge) → OfFunction e ⊎ IsCallEdge p vs e → IsSystemEdge p a e
  of_part e (inl w) = elim w.2 [ inl c ↦ control w.0 c | inr x ↦ flow w.0 x ]
  of_part e (inr b) = between b

  pub system_edges : IsWellFormed p → Listing (IsSystemEdge p a)
  system_edges well =
      as_same (λ e. OfFunction e ⊎ IsCallEdge p vs e) (IsSystemEdge p a) (λ e. (of_part e, by_part e))
      (either OfFunction (IsCallEdge p vs) (below (IsFunctionEdge p a) (length p.functions) (λ f low.
      either (IsControlIn p vs f) (IsFlowIn p a.points vs f) (control_edges p a f low) (flow_edges p a f low well))) (call_edges vs p))

  -- ---- ends

  vertex_within : (f v : ℕ) (k : VertexKind) → IsVertex vs f k v → v < length vs
  vertex_within f v k at = slice_get_within vs v (in_function f k) at

  of_within : (f v : ℕ) → IsOf vs f v → v < length vs
  of_within f v h = vertex_within f v h.kind h.at

  labelled_so : (e : Edge) (l : Label) → e.label ≡ l → ((c : ℕ) → l ≡ In c → ⊥) → (c : ℕ) → e.label ≡ In c → c < length vs
  labelled_so e l is none c h = absurd (none c (sym is ∙ h))

  control_label : (f : ℕ) (e : Edge) → IsControlIn p vs f e → e.label ≡ Control
  control_label f e (nested v i l c x y) = l
  control_label f e (formal l x y) = l
  control_label f e (actual i l x y) = l

  not_control : (c : ℕ) → Control ≡ In c → ⊥
  not_control c h = cc

  not_flow : (c : ℕ) → Flow ≡ In c → ⊥
  not_flow c h = cc

  not_call : (d c : ℕ) → Call d ≡ In c → ⊥
  not_call d c h = cc

  not_out : (d c : ℕ) → Out d ≡ In c → ⊥
  not_out d c h = cc

  same_call : (d c : ℕ) → In d ≡ In c → d ≡ c
  same_call d c h = cc

  call_within : (e : Edge) → IsCallEdge p vs e → IsWithin (length vs) e
  call_within e (call f i to is labelled at) = record {
    from_in = vertex_within f e.from (kind.Call i) is.at;
    to_in = vertex_within to e.to kind.Entry at;
    call_in = labelled_so e (Call e.from) labelled (not_call e.from);
  }
  call_within e (in_ f i to d slot is labelled from at) = record {
    from_in = vertex_within f e.from (kind.ActualIn i slot) from;
    to_in = vertex_within to e.to (kind.FormalIn slot) at;
    call_in = λ c h. subst (λ k. k < length vs) (same_call d c (sym labelled ∙ h)) (vertex_within f d (kind.Call i) is.at);
  }
  call_within e (out f i to d slot is labelled from at) = record {
    from_in = vertex_within to e.from (kind.FormalOut slot) from;
    to_in = vertex_within f e.to (kind.ActualOut i slot) at;
    call_in = labelled_so e (Out d) labelled (not_out d);
  }

  pub edge_within : (e : Edge) → IsSystemEdge p a e → IsWithin (length vs) e
  edge_within e (control f c) =
      let ends = control_in p vs f e c in
      record { from_in = of_within f e.from ends.0; to_in = of_within f e.to ends.1; call_in = labelled_so e Control (control_label f e c) not_control }
  edge_within e (flow f w) =
      let ends = flow_in p vs f a.points e w in
      record { from_in = of_within f e.from ends.0; to_in = of_within f e.to ends.1; call_in = labelled_so e Flow w.labelled not_flow }
  edge_within e (between b) = call_within e b
