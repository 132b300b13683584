-- Flow by rows is flow of a program: a location's place in the list for the location, and back.
use Rattle.std.proofs.Common.{◌≡◌, ℕ, ◌<◌, inl, inr, Bool, false, Some, List, [], length, Contains, refl, sym, ap, ◌∙◌, arith}
use Rattle.std.specs.Prelude.{slice_get}
use Rattle.std.specs.Option.{option_map_or}
use Rattle.std.proofs.lemmas.Bool.{cases_lt}
use Rattle.std.proofs.lemmas.List.{get_or_past}
use Rattle.std.proofs.lemmas.Option.{slice_get_past, slice_get_cases, slice_get_read}
use Rattle.bit_rows.specs.Sets.{has}
use Rattle.bit_rows.specs.Tables.{Table}
use Rattle.c_tree.specs.declared.program.Program.{Program}
use Rattle.dep_model.specs.declared.edge.Edge.{Edge}
use Rattle.dep_model.specs.declared.skeleton.FlowGraph.{FlowGraph}
use Rattle.dep_model.specs.declared.skeleton.Skeleton.{Skeleton}
use Rattle.dep_model.specs.declared.vertex.Vertex.{Vertex}
use Rattle.dep_model.specs.Denoted.{Places}
use Rattle.dep_model.specs.Follows.{Chain, last, more}
use Rattle.dep_model.specs.FunctionVertices.{FollowsIn}
use Rattle.dep_model.specs.Locations.{TypedLocation, locations}
use Rattle.dep_model.specs.LocationRows.{AreRows}
use Rattle.dep_model.specs.Skeletons.{IsSkeleton}
use Rattle.dep_model.specs.SystemGraph.{Analysis, vertices_of, places_at, numbered_effects, IsFlowIn}
use Rattle.dep_model.specs.VertexOrder.{vertex_effects}
use Rattle.rule_closure.proofs.ListLemmas.{contains_map}
use Rattle.reaching_defs.specs.RowFlow.{row_has, row_effects, Leads, IsRowFlow}
use Rattle.dep_model.specs.ListedLocations.{AreListed}
use Rattle.reaching_defs.specs.Laws.{AreOrderOf, RowFlowIsFlow}

-- an element of a list, by its place
got : {X : Type 0} (xs : List X) (i : ℕ) → i < length xs → (x : X) × (slice_get xs i ≡ Some x)
got xs i low = elim (slice_get_cases xs i).1 [ inl s ↦ (s.0, s.2) | inr s ↦ absurd (omega (arith, low, s.0)) ]

-- a member of a list has a place below its length
placed : {X : Type 0} (xs : List X) (x : X) → Contains xs x → (k : ℕ) × (k < length xs) × (slice_get xs k ≡ Some x)
placed xs x c = (c.0, c.1, slice_get_read xs (length xs) c.0 x refl c.1 (sym c.2))

-- a chain in one order and by kills of one location is one in another order and by kills of another location
chain_as : {L M : Type 0} (order order' : ℕ → ℕ → Type 0) (kills : ℕ → L → Bool) (kills' : ℕ → M → Bool) (l : L) (m : M) → ((v w : ℕ) → order v w → order' v w) → ((u : ℕ) → kills u l ≡ kills' u m) → {v w : ℕ} → Chain order kills l v w → Chain order' kills' m v w
chain_as order order' kills kills' l m leads same {v = v} {w = w} (last h) = last (leads v w h)
chain_as order order' kills kills' l m leads same {v = v} (more {u = u} h k c) = more (leads v u h) (sym (same u) ∙ k) (chain_as order order' kills kills' l m leads same c)

-- the row of a vertex number has a listed location where the vertex with the number has it
pub row_is : (p : Program) (vs : List Vertex) (places : Vertex → Places) (t : Table) → AreRows p vs places t → (k : ℕ) (o : TypedLocation) → slice_get (locations p) k ≡ Some o → (v : ℕ) → row_has t v k ≡ places_at places vs v o.location
row_is p vs places t rows k o at v = elim (cases_lt v (length vs)) [
  | inl low ↦
      let x = got vs v low in
      rows.exact v k x.0 o x.1 at ∙ sym (ap (λ q. option_map_or (λ (x : Vertex). places x o.location) q false) x.1)
  | inr high ↦
      ap (λ (s : List Bool). has s k) (get_or_past t.sets v [] (omega (arith, high, rows.sized.rows_are)))
      ∙ sym (ap (λ q. option_map_or (λ (x : Vertex). places x o.location) q false) (slice_get_past vs v high))
]

module _ (p : Program) (a : Analysis) (s : Skeleton) (g : FlowGraph) (f : ℕ) (is : IsSkeleton p a s) (order : AreOrderOf p a f g.pairs) where
  abbrev follows : ℕ → ℕ → Type 0
  follows v w = FollowsIn p (vertices_of p a) f v (Some w)

  flow_of : (e : Edge) → IsRowFlow s g e → IsFlowIn p a.points (vertices_of p a) f e
  flow_of e r =
      let k = r.flows.location in
      let vs = vertices_of p a in
      let effects = numbered_effects p a.points vs in
      let o = got (locations p) k (omega (arith, r.numbered, is.defined_are.sized.bits_are)) in
      record {
        labelled = r.labelled;
        flows = record {
          location = o.0.location;
          defined = sym (row_is p vs (vertex_effects p a.points).defines s.defined is.defined_are k o.0 o.1 e.from) ∙ r.flows.defined;
          used = sym (row_is p vs (vertex_effects p a.points).uses s.used is.used_are k o.0 o.1 e.to) ∙ r.flows.used;
          chain =
              chain_as (Leads g.pairs) follows (row_effects s).kills effects.kills k o.0.location
              (λ v w h. (order (record { from = v; to = w })).0 h)
              (row_is p vs (vertex_effects p a.points).kills s.killed is.killed_are k o.0 o.1)
              r.flows.chain;
        };
      }

  of_flow : AreListed p a → (e : Edge) → IsFlowIn p a.points (vertices_of p a) f e → IsRowFlow s g e
  of_flow listed e h =
      let vs = vertices_of p a in
      let effects = numbered_effects p a.points vs in
      let l = h.flows.location in
      let m = contains_map (λ (o : TypedLocation). o.location) (locations p) l (listed e.from e.to l h.flows.defined h.flows.used) in
      let o = m.0 in
      let at = placed (locations p) o m.1 in
      let k = at.0 in
      let moved : o.location ≡ l = m.2 in
      record {
        labelled = h.labelled;
        flows = record {
          location = k;
          defined = row_is p vs (vertex_effects p a.points).defines s.defined is.defined_are k o at.2 e.from ∙ ap (effects.defines e.from) moved ∙ h.flows.defined;
          used = row_is p vs (vertex_effects p a.points).uses s.used is.used_are k o at.2 e.to ∙ ap (effects.uses e.to) moved ∙ h.flows.used;
          chain =
              chain_as follows (Leads g.pairs) effects.kills (row_effects s).kills l k
              (λ v w q. (order (record { from = v; to = w })).1 q)
              (λ u. ap (effects.kills u) (sym moved) ∙ sym (row_is p vs (vertex_effects p a.points).kills s.killed is.killed_are k o at.2 u))
              h.flows.chain;
        };
        numbered = omega (arith, at.1, is.defined_are.sized.bits_are);
      }

pub row_flow_is_flow : RowFlowIsFlow
row_flow_is_flow p a s g f is order listed e = (flow_of p a s g f is order e, of_flow p a s g f is order listed e)
