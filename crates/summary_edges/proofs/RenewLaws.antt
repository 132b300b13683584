-- Rows that were filled by some facts, while they are filled by more.
use Rattle.std.proofs.Common.{◌≡◌, ℕ, ◌+◌, ◌-◌, ◌<◌, ◌≤◌, ◌⊎◌, ◌↔◌, inl, inr, Bool, true, false, List, refl, sym, ap, ◌∙◌, subst, arith}
use Rattle.std.proofs.lemmas.Bool.{cases_eq, false≢true}
use Rattle.bit_rows.specs.Sets.{has}
use Rattle.bit_rows.specs.Tables.{Holds}
use Rattle.dep_model.specs.declared.graph.Graph.{Graph}
use Rattle.dep_model.specs.Facts.{FactSet, HoldsFact, IsInnerEdge, IsInnerChain, ends, goes_on}
use Rattle.matched_paths.specs.VertexRanges.{IsInRange}
use Rattle.summary_edges.specs.declared.exit_rows.ExitRows.{ExitRows}
use Rattle.summary_edges.specs.declared.function_parts.FunctionPart.{FunctionPart}
use Rattle.summary_edges.specs.ExitRows.{HasRoom, HaveOneShape, HasSpread, IsAbove, IsFilling, LacksNews, exit_at}
use Rattle.summary_edges.specs.FunctionParts.{IsPart}
use Rattle.summary_edges.proofs.FillLaws.{number_back, room_stays}
use Rattle.summary_edges.proofs.SpreadLaws.{one_shape, shapes_follow}

-- ---- more facts give more inner edges
module _ (g : Graph) (K L : FactSet) (f : ℕ) (more : (a b : ℕ) → K a b → L a b) where
  pub inner_more : (u v : ℕ) → IsInnerEdge g.edges K u v → IsInnerEdge g.edges L u v
  inner_more u v (inl m) = inl m
  inner_more u v (inr (inl m)) = inr (inl m)
  inner_more u v (inr (inr q)) =
      inr (inr (record { call = q.call; formal_in = q.formal_in; formal_out = q.formal_out; enters = q.enters; leaves = q.leaves; fact = more q.formal_in q.formal_out q.fact }))

  pub chain_more : {a b : ℕ} → IsInnerChain g K f a b → IsInnerChain g L f a b
  chain_more (ends i) = ends i
  chain_more (goes_on {a = a} {b = m} i along rest) = goes_on i (inner_more a m along) (chain_more rest)

-- where each fact is of one of two sets, so is each inner edge
pub inner_cases : (g : Graph) (K N L : FactSet) → ((a b : ℕ) → L a b → K a b ⊎ N a b) → (u v : ℕ) → IsInnerEdge g.edges L u v → IsInnerEdge g.edges K u v ⊎ IsInnerEdge g.edges N u v
inner_cases g K N L either u v (inl m) = inl (inl m)
inner_cases g K N L either u v (inr (inl m)) = inl (inr (inl m))
inner_cases g K N L either u v (inr (inr q)) = elim (either q.formal_in q.formal_out q.fact) [
  | inl k ↦ inl (inr (inr (record { call = q.call; formal_in = q.formal_in; formal_out = q.formal_out; enters = q.enters; leaves = q.leaves; fact = k })))
  | inr n ↦ inr (inr (inr (record { call = q.call; formal_in = q.formal_in; formal_out = q.formal_out; enters = q.enters; leaves = q.leaves; fact = n })))
]

-- the vertices before one have spread along the inner edges that news give
pub record IsRenewing (g : Graph) (news known : List ℕ) (p : FunctionPart) (start : ExitRows) (at : ℕ) (now : ExitRows) : Type 0 where
  pub before : List ℕ
  pub news_are : (a b : ℕ) → HoldsFact g known a b ↔ (HoldsFact g before a b ⊎ HoldsFact g news a b)
  pub part : IsPart g p
  pub shape : HaveOneShape start now
  pub room : HasRoom p now
  pub sound : (v k : ℕ) → IsInRange p.range v → Holds now.rows (v - p.range.first) k → (k < p.last_row - p.first_row) × IsInnerChain g (HoldsFact g known) part.whole.function v (exit_at g p k)
  pub seeded : (k : ℕ) → k < p.last_row - p.first_row → Holds now.rows (exit_at g p k - p.range.first) k
  pub closed : (u v : ℕ) → IsInRange p.range u → IsInRange p.range v → IsInnerEdge g.edges (HoldsFact g known) u v → (v < at) ⊎ IsInnerEdge g.edges (HoldsFact g before) u v
      → has now.fresh.items (v - p.range.first) ≡ false → IsAbove now (u - p.range.first) (v - p.range.first)

module _ (g : Graph) (news known : List ℕ) (p : FunctionPart) where
  abbrev N : FactSet
  N = HoldsFact g news

  abbrev L : FactSet
  L = HoldsFact g known

  abbrev first : ℕ
  first = p.range.first

  pub renew_begins : (start : ExitRows) → LacksNews g p news known start → IsRenewing g news known p start p.range.first start
  renew_begins start h =
      let f = h.filled.filling in
      record {
        before = h.before;
        news_are = h.news_are;
        part = f.part;
        shape = one_shape start f.room.table;
        room = f.room;
        sound = λ v k i held.
            let s = f.sound v k i held in
            (s.0, chain_more g (HoldsFact g h.before) L f.part.whole.function (λ a b x. (h.news_are a b).1 (inl x)) s.1);
        seeded = f.seeded;
        closed = λ u v i j along which down. elim which [
          | inl low ↦ absurd (let from = j.0 in omega (arith, low, from))
          | inr k ↦ f.closed u v i j k down
        ];
      }

  module _ (start now new : ExitRows) (v : ℕ) (grows : Bool) (inside : IsInRange p.range v) (h : IsRenewing g news known p start v now)
      (spread : HasSpread (λ j. IsInnerEdge g.edges (HoldsFact g news) (p.range.first + j) v) (v - p.range.first) now new grows)
      (above : (u : ℕ) → IsInRange p.range u → IsInnerEdge g.edges (HoldsFact g news) u v → IsAbove new (u - p.range.first) (v - p.range.first)) where
    sound_still : (u k : ℕ) → IsInRange p.range u → Holds new.rows (u - first) k → (k < p.last_row - p.first_row) × IsInnerChain g L h.part.whole.function u (exit_at g p k)
    sound_still u k i held = elim (spread.from (u - first) k held) [
      | inl was ↦ h.sound u k i was
      | inr q ↦
          let along : IsInnerEdge g.edges N u v = subst (λ w. IsInnerEdge g.edges N w v) (number_back p.range u i) q.0 in
          let c = h.sound v k inside q.1 in
          (c.0, goes_on ((h.part.whole.all u).1 i) (inner_more g N L h.part.whole.function (λ a b x. (h.news_are a b).1 (inr x)) u v along) c.1)
    ]

    was_down : (w : ℕ) → has new.fresh.items (w - first) ≡ false → has now.fresh.items (w - first) ≡ false
    was_down w down = by_flag (has now.fresh.items (w - first)) refl
      where
        by_flag : (b : Bool) → has now.fresh.items (w - first) ≡ b → has now.fresh.items (w - first) ≡ false
        by_flag false e = e
        by_flag true e = absurd (false≢true (sym down ∙ spread.flags (w - first) e))

    stays : (u w : ℕ) → has new.fresh.items (w - first) ≡ false → IsAbove now (u - first) (w - first) → IsAbove new (u - first) (w - first)
    stays u w down was k held = spread.grown.kept (u - first) k (was k (ap (λ s. has s k) (sym (spread.others (w - first) down)) ∙ held))

    closed_still : (u w : ℕ) → IsInRange p.range u → IsInRange p.range w → IsInnerEdge g.edges L u w → (w < v + 1) ⊎ IsInnerEdge g.edges (HoldsFact g h.before) u w
        → has new.fresh.items (w - first) ≡ false → IsAbove new (u - first) (w - first)
    closed_still u w i j along which down = elim (cases_eq w v) [
      | inl same ↦ elim (inner_cases g (HoldsFact g h.before) N L (λ a b x. (h.news_are a b).0 x) u w along) [
        | inl k ↦ stays u w down (h.closed u w i j along (inr k) (was_down w down))
        | inr n ↦ subst (λ z. IsAbove new (u - first) (z - first)) (sym same) (above u i (subst (IsInnerEdge g.edges N u) same n))
      ]
      | inr other ↦ stays u w down (h.closed u w i j along (elim which [ inl low ↦ inl (omega (arith, low, other)) | inr k ↦ inr k ]) (was_down w down))
    ]

    pub renew_goes : IsRenewing g news known p start (v + 1) new
    renew_goes = record {
      before = h.before;
      news_are = h.news_are;
      part = h.part;
      shape = shapes_follow start now new h.shape spread.shape;
      room = room_stays g L p now new h.room spread.shape;
      sound = sound_still;
      seeded = λ k low. spread.grown.kept (exit_at g p k - first) k (h.seeded k low);
      closed = closed_still;
    }

  pub renew_ends : (start now : ExitRows) (at : ℕ) → p.range.last ≤ at → IsRenewing g news known p start at now → IsFilling g L p now
  renew_ends start now at ended h = record {
    part = h.part;
    room = h.room;
    sound = h.sound;
    seeded = h.seeded;
    closed = λ u v i j along down. h.closed u v i j along (inl (let high = j.1 in omega (arith, high, ended))) down;
  }
