-- The control edges and the flow edges of a function can be listed.
use Rattle.std.proofs.Common.{◌≡◌, ℕ, ◌<◌, ◌⊎◌, inl, inr, List, map, length, Bool, true, Some, refl, sym, ap, ◌∙◌, subst}
use Rattle.std.specs.Prelude.{◌||◌}
use Rattle.std.proofs.lemmas.Bool.{cases_Bool, false≢true}
use Rattle.std.proofs.lemmas.Option.{slice_get_within}
use Rattle.c_tree.specs.declared.program.Program.{Program}
use Rattle.c_language.specs.Programs.{IsWellFormed}
use Rattle.control_deps.specs.ControlEdges.{control_edge}
use Rattle.control_deps.proofs.ControlLaws.{found, found_exactly, edges_exactly}
use Rattle.dep_model.specs.declared.edge.Edge.{Edge}
use Rattle.dep_model.specs.declared.edge.Label.TheVariants as label
use Rattle.dep_model.specs.declared.location.Location.{Location}
use Rattle.dep_model.specs.declared.skeleton.Pair.{Pair}
use Rattle.dep_model.specs.declared.vertex.Vertex.{Vertex}
use Rattle.dep_model.specs.Follows.{EffectsOf, Chain}
use Rattle.dep_model.specs.FunctionVertices.{FollowsIn, IsControlIn, is_own, is_actual, numbers, heads, tails}
use Rattle.dep_model.specs.Graphs.{edge}
use Rattle.dep_model.specs.Locations.{TypedLocation, locations}
use Rattle.dep_model.specs.SystemGraph.{Analysis, vertices_of, numbered_effects, IsFlowIn}
use Rattle.dep_model.specs.VertexOrder.{in_function}
use Rattle.dep_model.proofs.FunctionCode.{code_at}
use Rattle.dep_model.proofs.Membership.{IsIn, in_of_contains, contains_of_in}
use Rattle.flow_graph.proofs.FunctionLaws.{found as ordered, found_exactly as ordered_exactly}
use Rattle.numbered_texts.proofs.Listed.{used_are_listed}
use Rattle.numbered_texts.proofs.NumbersButLines.{named_exist}
use Rattle.sdg.proofs.InFunction.{IsIn as IsOf, flow_in}
use Rattle.listed_graphs.proofs.Chains.{chain_or_none}
use Rattle.listed_graphs.proofs.Listings.{Listing, item_at, below, among, where_so, only, as_same}

-- a condition of three parts holds, or it doesn't
three_or_not : (a b : Bool) (C : Type 0) → C ⊎ (C → ⊥) → ((a ≡ true) × ((b ≡ true) × C)) ⊎ (((a ≡ true) × ((b ≡ true) × C)) → ⊥)
three_or_not a b C c = elim (cases_Bool a) [
  | inr off ↦ inr (λ h. false≢true (sym off ∙ h.0))
  | inl x ↦ elim (cases_Bool b) [
    | inr off ↦ inr (λ h. false≢true (sym off ∙ h.1.0))
    | inl y ↦ elim c [ inl z ↦ inl (x, (y, z)) | inr fails ↦ inr (λ h. fails h.1.1) ]
  ]
]

module _ (p : Program) (a : Analysis) (f : ℕ) (low : f < length p.functions) where
  abbrev vs : List Vertex
  vs = vertices_of p a

  -- ---- control

  pub control_edges : Listing (IsControlIn p vs f)
  control_edges =
      let g = item_at p.functions f low in
      let own : ℕ → List ℕ = λ i. numbers (is_own i) f vs in
      let xs = found p vs f own (λ i. refl) g.0.body in
      let es = map control_edge xs in
      let each = edges_exactly p vs f xs es (found_exactly p vs f own (λ i. refl) g.0.body (code_at p f g.0 g.1) xs refl) refl in
      record { items = es; exact = λ e. (λ h. (each e).0 (contains_of_in es e h), λ h. in_of_contains es e ((each e).1 h)) }

  -- ---- flow

  abbrev order : ℕ → ℕ → Type 0
  order v w = FollowsIn p vs f v (Some w)

  order_pairs : Listing {A = Pair} (λ x. order x.from x.to)
  order_pairs =
      let g = item_at p.functions f low in
      let own : ℕ → List ℕ = λ i. numbers (λ k. is_own i k || is_actual i k) f vs in
      let xs = ordered own g.0.body (heads vs f) (tails vs f) in
      let each = ordered_exactly p vs f own (λ i. refl) g.0.body (code_at p f g.0 g.1) xs refl in
      record { items = xs; exact = λ x. (λ h. (each x).0 (contains_of_in xs x h), λ h. in_of_contains xs x ((each x).1 h)) }

  abbrev effects : EffectsOf ℕ Location
  effects = numbered_effects p a.points vs

  abbrev listed : List Location
  listed = map (λ (o : TypedLocation). o.location) (locations p)

  -- v may define a location that w may use, and a chain leads from v to w
  abbrev Flowing : ℕ → ℕ → Location → Type 0
  Flowing v w l = (effects.defines v l ≡ true) × ((effects.uses w l ≡ true) × Chain order effects.kills l v w)

  flowing_or_not : (v w : ℕ) (l : Location) → Flowing v w l ⊎ (Flowing v w l → ⊥)
  flowing_or_not v w l =
      three_or_not (effects.defines v l) (effects.uses w l) (Chain order effects.kills l v w) (chain_or_none order order_pairs.items order_pairs.exact effects.kills l v w)

  abbrev FromOne : ℕ → Location → ℕ → Edge → Type 0
  FromOne w l v e = Flowing v w l × (e ≡ edge v w label.Flow)

  abbrev AtLocation : ℕ → Location → Edge → Type 0
  AtLocation w l e = (v : ℕ) × (v < length vs) × FromOne w l v e

  abbrev ToOne : ℕ → Edge → Type 0
  ToOne w e = (l : Location) × IsIn listed l × AtLocation w l e

  found_flow : Listing (λ e. (w : ℕ) × (w < length vs) × ToOne w e)
  found_flow =
      below ToOne (length vs) (λ w lt. among (AtLocation w) listed (λ l. below (FromOne w l) (length vs) (λ v lt.
      where_so (Flowing v w l) (λ e. e ≡ edge v w label.Flow) (flowing_or_not v w l) (λ h. only (edge v w label.Flow)))))

  within : (v : ℕ) → IsOf vs f v → v < length vs
  within v h = slice_get_within vs v (in_function f h.kind) h.at

  is_flow : (e : Edge) → ((w : ℕ) × (w < length vs) × ToOne w e) → IsFlowIn p a.points vs f e
  is_flow e (w, lt, (l, at, (v, less, (h, is)))) = subst (IsFlowIn p a.points vs f) (sym is) (record {
    labelled = refl;
    flows = record { location = l; defined = h.0; used = h.1.0; chain = h.1.1 };
  })

  flow_is : IsWellFormed p → (e : Edge) → IsFlowIn p a.points vs f e → (w : ℕ) × (w < length vs) × ToOne w e
  flow_is well e h =
      let flows = h.flows in
      let ends = flow_in p vs f a.points e h in
      let at = used_are_listed p (named_exist p well) a e.from e.to flows.location flows.defined flows.used in
      (e.to, within e.to ends.1, (flows.location, in_of_contains listed flows.location at, (e.from, within e.from ends.0, ((flows.defined, (flows.used, flows.chain)), ap (edge e.from e.to) h.labelled))))

  pub flow_edges : IsWellFormed p → Listing (IsFlowIn p a.points vs f)
  flow_edges well = as_same (λ e. (w : ℕ) × (w < length vs) × ToOne w e) (IsFlowIn p a.points vs f) (λ e. (is_flow e, flow_is well e)) found_flow
