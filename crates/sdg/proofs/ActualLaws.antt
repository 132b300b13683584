-- The edges of one actual, formal by formal.
use Rattle.std.proofs.Common.{◌≡◌, ℕ, inl, inr, List, [], ◌∷◌, ◌++◌, slice_get, Some, refl, sym, ap, ◌∙◌}
use Rattle.std.proofs.lemmas.Option.{same_Some}
use Rattle.dep_model.specs.declared.edge.Edge.{Edge}
use Rattle.dep_model.specs.declared.edge.Label.TheVariants as label
use Rattle.dep_model.specs.declared.vertex.Slot.{Slot}
use Rattle.dep_model.specs.declared.vertex.Vertex.{Vertex}
use Rattle.dep_model.specs.declared.vertex.VertexKind.{VertexKind}
use Rattle.dep_model.specs.declared.vertex.VertexKind.TheVariants.{Entry, FormalIn, FormalOut, Statement, Call, ActualIn, ActualOut}
use Rattle.dep_model.specs.Graphs.{edge}
use Rattle.dep_model.specs.SystemGraph.{IsVertex}
use Rattle.dep_model.specs.VertexOrder.{in_function}
use Rattle.sdg.specs.declared.call_sites.CallSite.{CallSite}
use Rattle.sdg.specs.declared.places.Places.{Places}
use Rattle.sdg.specs.SiteEdges.{Adds, ArePlaces, Enters, Leaves, IsActualEdge}
use Rattle.sdg.specs.VertexLists.{list_at}
use Rattle.sdg.proofs.AddLemmas.{OneOf, adds_none, adds_one, adds_same}
use Rattle.sdg.proofs.PlaceLaws.{listed_formal_in, formal_in_listed, listed_formal_out, formal_out_listed}

-- ---- one formal

-- the edge from actual-in u of call c to formal number n, where that is a formal-in of the slot
pub record EntersAt (vs : List Vertex) (slot : Slot) (u c n : ℕ) (e : Edge) : Type 0 where
  pub vertex : Vertex
  pub at : slice_get vs n ≡ Some vertex
  pub kind_is : vertex.kind ≡ FormalIn slot
  pub is : e ≡ edge u n (label.In c)

-- the edge to actual-out u of call c from formal number n, where that is a formal-out of the slot
pub record LeavesAt (vs : List Vertex) (slot : Slot) (u c n : ℕ) (e : Edge) : Type 0 where
  pub vertex : Vertex
  pub at : slice_get vs n ≡ Some vertex
  pub kind_is : vertex.kind ≡ FormalOut slot
  pub is : e ≡ edge n u (label.Out c)

module _ (vs : List Vertex) (slot : Slot) (u c n : ℕ) (x : Vertex) (at : slice_get vs n ≡ Some x) (old new : List Edge) where
  pub enters_one : x.kind ≡ FormalIn slot → new ≡ old ++ edge u n (label.In c) ∷ [] → Adds old new (EntersAt vs slot u c n)
  enters_one kind same = adds_one old new (edge u n (label.In c)) (EntersAt vs slot u c n) same (record { vertex = x; at = at; kind_is = kind; is = refl }) (λ e b. b.is)

  pub enters_none : (x.kind ≡ FormalIn slot → ⊥) → new ≡ old → Adds old new (EntersAt vs slot u c n)
  enters_none not same = adds_none old new (EntersAt vs slot u c n) same (λ e b.
      let one : x ≡ b.vertex = same_Some _ _ (sym at ∙ b.at) in not (ap (λ (y : Vertex). y.kind) one ∙ b.kind_is))

  pub leaves_one : x.kind ≡ FormalOut slot → new ≡ old ++ edge n u (label.Out c) ∷ [] → Adds old new (LeavesAt vs slot u c n)
  leaves_one kind same = adds_one old new (edge n u (label.Out c)) (LeavesAt vs slot u c n) same (record { vertex = x; at = at; kind_is = kind; is = refl }) (λ e b. b.is)

  pub leaves_none : (x.kind ≡ FormalOut slot → ⊥) → new ≡ old → Adds old new (LeavesAt vs slot u c n)
  leaves_none not same = adds_none old new (LeavesAt vs slot u c n) same (λ e b.
      let one : x ≡ b.vertex = same_Some _ _ (sym at ∙ b.at) in not (ap (λ (y : Vertex). y.kind) one ∙ b.kind_is))

-- ---- all formals of a function

pub enters_all : (vs : List Vertex) (formals : List ℕ) (slot : Slot) (u c : ℕ) (old new : List Edge) → Adds old new (OneOf (EntersAt vs slot u c) formals) → Adds old new (Enters vs formals slot u c)
enters_all vs formals slot u c old new adds = adds_same old new (OneOf (EntersAt vs slot u c) formals) (Enters vs formals slot u c) adds (λ e. (
  λ o. record { formal = o.one; member = o.member; vertex = o.is.vertex; at = o.is.at; kind_is = o.is.kind_is; is = o.is.is },
  λ h. record { one = h.formal; member = h.member; is = record { vertex = h.vertex; at = h.at; kind_is = h.kind_is; is = h.is } },
))

pub leaves_all : (vs : List Vertex) (formals : List ℕ) (slot : Slot) (u c : ℕ) (old new : List Edge) → Adds old new (OneOf (LeavesAt vs slot u c) formals) → Adds old new (Leaves vs formals slot u c)
leaves_all vs formals slot u c old new adds = adds_same old new (OneOf (LeavesAt vs slot u c) formals) (Leaves vs formals slot u c) adds (λ e. (
  λ o. record { formal = o.one; member = o.member; vertex = o.is.vertex; at = o.is.at; kind_is = o.is.kind_is; is = o.is.is },
  λ h. record { one = h.formal; member = h.member; is = record { vertex = h.vertex; at = h.at; kind_is = h.kind_is; is = h.is } },
))

-- ---- one actual

-- the slot of a kind, or s where it has none
abbrev slot_of : VertexKind → Slot → Slot
slot_of Entry s = s
slot_of (FormalIn t) s = t
slot_of (FormalOut t) s = t
slot_of (Statement i) s = s
slot_of (Call i) s = s
slot_of (ActualIn i t) s = t
slot_of (ActualOut i t) s = t

module _ (vs : List Vertex) (t : Places) (site : CallSite) (c u : ℕ) (x : Vertex) (are : ArePlaces vs t) (at : slice_get vs u ≡ Some x) (old new : List Edge) where
  same_vertex : (k : VertexKind) → IsVertex vs site.function k u → x ≡ in_function site.function k
  same_vertex k h = same_Some _ _ (sym at ∙ h)

  same_kind_of : (k : VertexKind) → IsVertex vs site.function k u → x.kind ≡ k
  same_kind_of k h = ap (λ (y : Vertex). y.kind) (same_vertex k h)

  -- a vertex of another function has no edges at the call
  pub actual_elsewhere : (x.function ≡ site.function → ⊥) → new ≡ old → Adds old new (IsActualEdge vs site c u)
  actual_elsewhere not same = adds_none old new (IsActualEdge vs site c u) same (λ e h. not (elim h [
    | inl a ↦ ap (λ (y : Vertex). y.function) (same_vertex (ActualIn site.statement a.slot) a.actual_is)
    | inr b ↦ ap (λ (y : Vertex). y.function) (same_vertex (ActualOut site.statement b.slot) b.actual_is)
  ]))

  -- nor has one that is no actual
  pub no_actual : ((i : ℕ) (s : Slot) → x.kind ≡ ActualIn i s → ⊥) → ((i : ℕ) (s : Slot) → x.kind ≡ ActualOut i s → ⊥) → new ≡ old → Adds old new (IsActualEdge vs site c u)
  no_actual not_in not_out same = adds_none old new (IsActualEdge vs site c u) same (λ e h. elim h [
    | inl a ↦ not_in site.statement a.slot (same_kind_of (ActualIn site.statement a.slot) a.actual_is)
    | inr b ↦ not_out site.statement b.slot (same_kind_of (ActualOut site.statement b.slot) b.actual_is)
  ])

  module _ (slot : Slot) (inside : x.function ≡ site.function) where
    is_here : (k : VertexKind) → x.kind ≡ k → IsVertex vs site.function k u
    is_here k e = at ∙ ap (λ g. Some (in_function g x.kind)) inside ∙ ap (λ l. Some (in_function site.function l)) e

    pub actual_in : x.kind ≡ ActualIn site.statement slot → Adds old new (Enters vs (list_at t.formal_ins site.callee) slot u c) → Adds old new (IsActualEdge vs site c u)
    actual_in kind adds = adds_same old new (Enters vs (list_at t.formal_ins site.callee) slot u c) (IsActualEdge vs site c u) adds (λ e. (
      λ h. inl (record {
        slot = slot;
        formal = h.formal;
        is = h.is;
        actual_is = is_here (ActualIn site.statement slot) kind;
        formal_is = listed_formal_in vs t.formal_ins site.callee h.formal h.vertex slot are.formal_ins_are h.member h.at h.kind_is;
      }),
      λ h. elim h [
        | inl a ↦
            let kinds : ActualIn site.statement a.slot ≡ ActualIn site.statement slot = sym (same_kind_of (ActualIn site.statement a.slot) a.actual_is) ∙ kind in
            let slots : a.slot ≡ slot = ap (λ k. slot_of k slot) kinds in
            record {
              formal = a.formal;
              member = formal_in_listed vs t.formal_ins site.callee a.formal a.slot are.formal_ins_are a.formal_is;
              vertex = in_function site.callee (FormalIn a.slot);
              at = a.formal_is;
              kind_is = ap FormalIn slots;
              is = a.is;
            }
        | inr b ↦
            let kinds : ActualOut site.statement b.slot ≡ ActualIn site.statement slot = sym (same_kind_of (ActualOut site.statement b.slot) b.actual_is) ∙ kind in
            absurd cc
      ],
    ))

    pub actual_out : x.kind ≡ ActualOut site.statement slot → Adds old new (Leaves vs (list_at t.formal_outs site.callee) slot u c) → Adds old new (IsActualEdge vs site c u)
    actual_out kind adds = adds_same old new (Leaves vs (list_at t.formal_outs site.callee) slot u c) (IsActualEdge vs site c u) adds (λ e. (
      λ h. inr (record {
        slot = slot;
        formal = h.formal;
        is = h.is;
        actual_is = is_here (ActualOut site.statement slot) kind;
        formal_is = listed_formal_out vs t.formal_outs site.callee h.formal h.vertex slot are.formal_outs_are h.member h.at h.kind_is;
      }),
      λ h. elim h [
        | inl a ↦
            let kinds : ActualIn site.statement a.slot ≡ ActualOut site.statement slot = sym (same_kind_of (ActualIn site.statement a.slot) a.actual_is) ∙ kind in
            absurd cc
        | inr b ↦
            let kinds : ActualOut site.statement b.slot ≡ ActualOut site.statement slot = sym (same_kind_of (ActualOut site.statement b.slot) b.actual_is) ∙ kind in
            let slots : b.slot ≡ slot = ap (λ k. slot_of k slot) kinds in
            record {
              formal = b.formal;
              member = formal_out_listed vs t.formal_outs site.callee b.formal b.slot are.formal_outs_are b.formal_is;
              vertex = in_function site.callee (FormalOut b.slot);
              at = b.formal_is;
              kind_is = ap FormalOut slots;
              is = b.is;
            }
      ],
    ))
