-- The edges at the calls of a program can be listed.
use Rattle.std.proofs.Common.{◌≡◌, ℕ, ◌<◌, ◌⊎◌, inl, inr, List, length, Bool, Option, Some, None, refl, sym, ap, ◌∙◌, subst}
use Rattle.std.specs.Prelude.{slice_get}
use Rattle.std.specs.Bool.{Decides}
use Rattle.std.proofs.lemmas.Bool.{cases_Bool, cases_eq, false≢true}
use Rattle.std.proofs.lemmas.Option.{same_Some, slice_get_within}
use Rattle.c_tree.specs.declared.expr.Expr.{Expr}
use Rattle.c_tree.specs.declared.program.Program.{Program}
use Rattle.c_tree.specs.declared.statement.Target.{Target}
use Rattle.dep_model.specs.declared.edge.Edge.{Edge}
use Rattle.dep_model.specs.declared.edge.Label.TheVariants as label
use Rattle.dep_model.specs.declared.vertex.Slot.{Slot}
use Rattle.dep_model.specs.declared.vertex.Vertex.{Vertex}
use Rattle.dep_model.specs.declared.vertex.VertexKind.{VertexKind}
use Rattle.dep_model.specs.declared.vertex.VertexKind.TheVariants.{Entry, FormalIn, FormalOut, Statement, Call, ActualIn, ActualOut}
use Rattle.dep_model.specs.Doings.{Doing, Does, Calls, doings_of}
use Rattle.dep_model.specs.FunctionVertices.{is_entry}
use Rattle.dep_model.specs.Graphs.{edge}
use Rattle.dep_model.specs.SystemGraph.{IsVertex, IsCall, IsCallEdge, call, in_, out}
use Rattle.dep_model.specs.VertexOrder.{in_function}
use Rattle.dep_model.proofs.Membership.{IsIn, in_of_contains, contains_of_in}
use Rattle.sdg.proofs.KindTests.{same_kind, is_formal_in_of, is_formal_out_of, is_call_of}
use Rattle.listed_graphs.proofs.PointsTo.{stated}
use Rattle.listed_graphs.proofs.Listings.{Listing, nothing, only, as_same, either, below, among, where_so}

is_the_entry : (k : VertexKind) → Decides (is_entry k) (k ≡ Entry)
is_the_entry Entry = (λ e. refl, λ e. refl)
is_the_entry (FormalIn t) = (λ e. absurd (false≢true e), λ e. cc)
is_the_entry (FormalOut t) = (λ e. absurd (false≢true e), λ e. cc)
is_the_entry (Statement i) = (λ e. absurd (false≢true e), λ e. cc)
is_the_entry (Call i) = (λ e. absurd (false≢true e), λ e. cc)
is_the_entry (ActualIn i t) = (λ e. absurd (false≢true e), λ e. cc)
is_the_entry (ActualOut i t) = (λ e. absurd (false≢true e), λ e. cc)

-- a slot is that of a vertex's kind, or no slot is
abbrev SlotOf : (Slot → VertexKind) → VertexKind → Type 0
SlotOf kind k = ((s : Slot) × (k ≡ kind s)) ⊎ ((s : Slot) → k ≡ kind s → ⊥)

in_slot : (i : ℕ) (k : VertexKind) → SlotOf (ActualIn i) k
in_slot i (ActualIn j s) = elim (cases_eq j i) [
  | inl same ↦ inl (s, ap (λ n. ActualIn n s) same)
  | inr other ↦ inr (λ t e. other (number_is t e))
]
  where
    number_is : (t : Slot) → ActualIn j s ≡ ActualIn i t → j ≡ i
    number_is t e = cc
in_slot i Entry = inr (λ s e. cc)
in_slot i (FormalIn t) = inr (λ s e. cc)
in_slot i (FormalOut t) = inr (λ s e. cc)
in_slot i (Statement j) = inr (λ s e. cc)
in_slot i (Call j) = inr (λ s e. cc)
in_slot i (ActualOut j t) = inr (λ s e. cc)

out_slot : (i : ℕ) (k : VertexKind) → SlotOf (ActualOut i) k
out_slot i (ActualOut j s) = elim (cases_eq j i) [
  | inl same ↦ inl (s, ap (λ n. ActualOut n s) same)
  | inr other ↦ inr (λ t e. other (number_is t e))
]
  where
    number_is : (t : Slot) → ActualOut j s ≡ ActualOut i t → j ≡ i
    number_is t e = cc
out_slot i Entry = inr (λ s e. cc)
out_slot i (FormalIn t) = inr (λ s e. cc)
out_slot i (FormalOut t) = inr (λ s e. cc)
out_slot i (Statement j) = inr (λ s e. cc)
out_slot i (Call j) = inr (λ s e. cc)
out_slot i (ActualIn j t) = inr (λ s e. cc)

same_in : (i : ℕ) (s t : Slot) → ActualIn i s ≡ ActualIn i t → s ≡ t
same_in i s t e = cc

same_out : (i : ℕ) (s t : Slot) → ActualOut i s ≡ ActualOut i t → s ≡ t
same_out i s t e = cc

module _ (vs : List Vertex) where
  abbrev n : ℕ
  n = length vs

  within : (f v : ℕ) (k : VertexKind) → IsVertex vs f k v → v < n
  within f v k h = slice_get_within vs v (in_function f k) h

  -- ---- what a vertex is

  abbrev Or : Type 0 → Type 0
  Or P = P ⊎ (P → ⊥)

  -- a vertex is of a kind that a test tells, or it isn't
  pub is_or_not : (f : ℕ) (kind : VertexKind) (test : VertexKind → Bool) → ((k : VertexKind) → Decides (test k) (k ≡ kind)) → (v : ℕ) → Or (IsVertex vs f kind v)
  is_or_not f kind test decides v = by_place (slice_get vs v) refl
    where
      by_place : (o : Option Vertex) → slice_get vs v ≡ o → Or (IsVertex vs f kind v)
      by_place None at = inr (λ h. none_some (sym at ∙ h))
        where
          none_some : None ≡ Some (in_function f kind) → ⊥
          none_some e = cc
      by_place (Some x) at = elim (cases_eq x.function f) [
        | inr other ↦ inr (λ h. other (ap (λ (y : Vertex). y.function) (same_Some _ _ (sym at ∙ h))))
        | inl same ↦ elim (cases_Bool (test x.kind)) [
          | inl passes ↦ inl (at ∙ ap (λ (y : Vertex). Some y) (ap (λ g. in_function g x.kind) same ∙ ap (in_function f) ((decides x.kind).0 passes)))
          | inr fails ↦ inr (λ h. false≢true (sym fails ∙ (decides x.kind).1 (ap (λ (y : Vertex). y.kind) (same_Some _ _ (sym at ∙ h)))))
        ]
      ]

  -- the slot of a vertex of a kind
  slot_or_none : (f : ℕ) (kind : Slot → VertexKind) → ((k : VertexKind) → SlotOf kind k) → (u : ℕ) → ((s : Slot) × IsVertex vs f (kind s) u) ⊎ ((s : Slot) → IsVertex vs f (kind s) u → ⊥)
  slot_or_none f kind slots u = by_place (slice_get vs u) refl
    where
      by_place : (o : Option Vertex) → slice_get vs u ≡ o → ((s : Slot) × IsVertex vs f (kind s) u) ⊎ ((s : Slot) → IsVertex vs f (kind s) u → ⊥)
      by_place None at = inr (λ s h. none_some s (sym at ∙ h))
        where
          none_some : (s : Slot) → None ≡ Some (in_function f (kind s)) → ⊥
          none_some s e = cc
      by_place (Some x) at = elim (cases_eq x.function f) [
        | inr other ↦ inr (λ s h. other (ap (λ (y : Vertex). y.function) (same_Some _ _ (sym at ∙ h))))
        | inl same ↦ elim (slots x.kind) [
          | inl w ↦ inl (w.0, at ∙ ap (λ (y : Vertex). Some y) (ap (λ g. in_function g x.kind) same ∙ ap (in_function f) w.1))
          | inr none ↦ inr (λ s h. none s (ap (λ (y : Vertex). y.kind) (same_Some _ _ (sym at ∙ h))))
        ]
      ]

  -- ---- the edges of one actual

  -- an edge between vertex u, which has a slot, and a formal of that slot
  abbrev SlotEdge : ℕ → ℕ → (Slot → VertexKind) → (Slot → VertexKind) → (ℕ → Edge) → ℕ → Edge → Type 0
  SlotEdge f g actual formal make u e = (s : Slot) × IsVertex vs f (actual s) u × ((v : ℕ) × (v < n) × (IsVertex vs g (formal s) v × (e ≡ make v)))

  slot_edges : (f g : ℕ) (actual formal : Slot → VertexKind) (make : ℕ → Edge) (u : ℕ) → ((k : VertexKind) → SlotOf actual k)
      → ((s t : Slot) → actual s ≡ actual t → s ≡ t) → ((s : Slot) (v : ℕ) → Or (IsVertex vs g (formal s) v)) → Listing (SlotEdge f g actual formal make u)
  slot_edges f g actual formal make u slots one decide = elim (slot_or_none f actual slots u) [
    | inr none ↦ nothing (SlotEdge f g actual formal make u) (λ e h. none h.0 h.1)
    | inl w ↦
        let AtFormal : ℕ → Edge → Type 0 = λ v e. IsVertex vs g (formal w.0) v × (e ≡ make v) in
        let found = below AtFormal n (λ v lt. where_so (IsVertex vs g (formal w.0) v) (λ e. e ≡ make v) (decide w.0 v) (λ h. only (make v))) in
        as_same (λ e. (v : ℕ) × (v < n) × AtFormal v e) (SlotEdge f g actual formal make u) (λ e. (
          λ h. (w.0, w.1, h),
          λ h. let same : h.0 ≡ w.0 = one h.0 w.0 (ap (λ (y : Vertex). y.kind) (same_Some _ _ (sym h.1 ∙ w.1))) in
              subst (λ s. (v : ℕ) × (v < n) × (IsVertex vs g (formal s) v × (e ≡ make v))) same h.2,
        )) found
  ]

  -- statement i of function f calls function g, by vertex c
  module _ (f i g c : ℕ) where
    abbrev InEdge : ℕ → Edge → Type 0
    InEdge u = SlotEdge f g (ActualIn i) FormalIn (λ v. edge u v (label.In c)) u

    in_edges : (u : ℕ) → Listing (InEdge u)
    in_edges u = slot_edges f g (ActualIn i) FormalIn (λ v. edge u v (label.In c)) u (in_slot i) (same_in i) (λ s v. is_or_not g (FormalIn s) (λ k. same_kind k (FormalIn s)) (λ k. is_formal_in_of k s) v)

    abbrev OutEdge : ℕ → Edge → Type 0
    OutEdge u = SlotEdge f g (ActualOut i) FormalOut (λ v. edge v u (label.Out c)) u

    out_edges : (u : ℕ) → Listing (OutEdge u)
    out_edges u = slot_edges f g (ActualOut i) FormalOut (λ v. edge v u (label.Out c)) u (out_slot i) (same_out i) (λ s v. is_or_not g (FormalOut s) (λ k. same_kind k (FormalOut s)) (λ k. is_formal_out_of k s) v)

    abbrev ToEntry : ℕ → Edge → Type 0
    ToEntry v e = IsVertex vs g Entry v × (e ≡ edge c v (label.Call c))

    abbrev AtActual : ℕ → Edge → Type 0
    AtActual u e = InEdge u e ⊎ OutEdge u e

    abbrev EdgeAt : Edge → Type 0
    EdgeAt e = ((v : ℕ) × (v < n) × ToEntry v e) ⊎ ((u : ℕ) × (u < n) × AtActual u e)

    edges_at : Listing EdgeAt
    edges_at =
        either (λ e. (v : ℕ) × (v < n) × ToEntry v e) (λ e. (u : ℕ) × (u < n) × AtActual u e)
        (below ToEntry n (λ v lt. where_so (IsVertex vs g Entry v) (λ e. e ≡ edge c v (label.Call c)) (is_or_not g Entry is_entry is_the_entry v) (λ h. only (edge c v (label.Call c)))))
        (below AtActual n (λ u lt. either (InEdge u) (OutEdge u) (in_edges u) (out_edges u)))

  module _ (f i g : ℕ) where
    abbrev AtVertex : ℕ → Edge → Type 0
    AtVertex c e = IsVertex vs f (Call i) c × EdgeAt f i g c e

    abbrev OfCall : Edge → Type 0
    OfCall e = (c : ℕ) × (c < n) × AtVertex c e

    edges_of_call : Listing OfCall
    edges_of_call = below AtVertex n (λ c lt. where_so (IsVertex vs f (Call i) c) (EdgeAt f i g c) (is_or_not f (Call i) (λ k. same_kind k (Call i)) (λ k. is_call_of k i) c) (λ h. edges_at f i g c))

  -- ---- the edges of all calls

  abbrev OfDoing : ℕ → Doing → Edge → Type 0
  OfDoing f (Does i a) e = ⊥
  OfDoing f (Calls i to g args) e = OfCall f i g e

  edges_of_doing : (f : ℕ) (d : Doing) → Listing (OfDoing f d)
  edges_of_doing f (Does i a) = nothing (OfDoing f (Does i a)) (λ e h. h)
  edges_of_doing f (Calls i to g args) = edges_of_call f i g

  module _ (p : Program) where
    abbrev InFunction : ℕ → Edge → Type 0
    InFunction f e = (d : Doing) × IsIn (doings_of p f) d × OfDoing f d e

    at_vertex : (f i g c : ℕ) (to : Target) (args : List Expr) (e : Edge) → IsIn (doings_of p f) (Calls i to g args) → IsVertex vs f (Call i) c → EdgeAt f i g c e → IsCallEdge p vs e
    at_vertex f i g c to args e member at h =
        let calls : IsCall p vs f i g c = record { target = to; args = args; member = contains_of_in (doings_of p f) (Calls i to g args) member; at = at } in
        elim h [
          | inl (v, lt, (entry, is)) ↦ subst (IsCallEdge p vs) (sym is) (call f i g calls refl entry)
          | inr (u, lt, inl (s, actual, (v, low, (formal, is)))) ↦ subst (IsCallEdge p vs) (sym is) (in_ f i g c s calls refl actual formal)
          | inr (u, lt, inr (s, actual, (v, low, (formal, is)))) ↦ subst (IsCallEdge p vs) (sym is) (out f i g c s calls refl formal actual)
        ]

    of_doing : (f : ℕ) (d : Doing) (e : Edge) → IsIn (doings_of p f) d → OfDoing f d e → IsCallEdge p vs e
    of_doing f (Does i a) e member h = absurd h
    of_doing f (Calls i to g args) e member h = at_vertex f i g h.0 to args e member h.2.0 h.2.1

    by_function : (f i g c : ℕ) (e : Edge) → IsCall p vs f i g c → EdgeAt f i g c e → (k : ℕ) × (k < length p.functions) × InFunction k e
    by_function f i g c e calls h =
        let member = in_of_contains (doings_of p f) (Calls i calls.target g calls.args) calls.member in
        (f, stated p f (Calls i calls.target g calls.args) member, (Calls i calls.target g calls.args, member, (c, within f c (Call i) calls.at, (calls.at, h))))

    in_function_of : (e : Edge) → IsCallEdge p vs e → (k : ℕ) × (k < length p.functions) × InFunction k e
    in_function_of e (call f i g calls labelled entry) =
        by_function f i g e.from e calls (inl (e.to, within g e.to Entry entry, (entry, ap (edge e.from e.to) labelled)))
    in_function_of e (in_ f i g c s calls labelled actual formal) =
        by_function f i g c e calls (inr (e.from, within f e.from (ActualIn i s) actual, inl (s, actual, (e.to, within g e.to (FormalIn s) formal, (formal, ap (edge e.from e.to) labelled)))))
    in_function_of e (out f i g c s calls labelled formal actual) =
        by_function f i g c e calls (inr (e.to, within f e.to (ActualOut i s) actual, inr (s, actual, (e.from, within g e.from (FormalOut s) formal, (formal, ap (edge e.from e.to) labelled)))))

    pub call_edges : Listing (IsCallEdge p vs)
    call_edges =
        as_same (λ e. (f : ℕ) × (f < length p.functions) × InFunction f e) (IsCallEdge p vs) (λ e. (λ h. of_doing h.0 h.2.0 e h.2.1 h.2.2, in_function_of e))
        (below InFunction (length p.functions) (λ f lt. among (OfDoing f) (doings_of p f) (edges_of_doing f)))
