-- Flow edges as they are appended: exactly these, and ascending.
use Rattle.std.proofs.Common.{◌≡◌, ℕ, ◌+◌, ◌-◌, ◌<◌, ◌≤◌, ◌⊎◌, ◌↔◌, inl, inr, Bool, List, [], ◌∷◌, ◌++◌, length, get_or, Contains, All, refl, sym, ap, ◌∙◌, subst, arith}
use Rattle.std.specs.Prelude.{AllPairs}
use Rattle.std.proofs.lemmas.Bool.{cases_eq}
use Rattle.std.proofs.lemmas.List.{get_or_default}
use Rattle.std.proofs.lemmas.List.Elements.{Contains-get_or, Contains-push, Contains-push_cases, Contains-append_left}
use Rattle.std.proofs.lemmas.List.Quantifiers.{all_pairs_push}
use Rattle.dep_model.specs.declared.edge.Edge.{Edge}
use Rattle.dep_model.specs.declared.edge.Label.{Label}
use Rattle.dep_model.specs.declared.skeleton.Pair.{Pair}
use Rattle.dep_model.specs.declared.skeleton.Skeleton.{Skeleton}
use Rattle.dep_model.specs.declared.skeleton.FlowGraph.{FlowGraph}
use Rattle.dep_model.specs.Follows.{Chain, last, more}
use Rattle.dep_model.specs.EdgeOrder.{IsBefore, AreAscendingEdges}
use Rattle.rule_closure.proofs.ListLemmas.{contains_none}
use Rattle.reaching_defs.specs.FlowEdges.{flow_edge, IsTargeted}
use Rattle.reaching_defs.specs.RowFlow.{row_has, Leads, IsRowFlow}
use Rattle.reaching_defs.specs.Stretches.{IsPairAmong, FlowsAmong}
use Rattle.reaching_defs.proofs.ListingLemmas.{first_more, first_kept}
use Rattle.reaching_defs.proofs.SearchLemmas.{leads_among}

-- ---- the edges to targets, one by one
pub none_ascend : AreAscendingEdges []
none_ascend i j d before low = absurd (omega (arith, low))

pub record ArePushed (v base count : ℕ) (targets : List ℕ) (old new : List Edge) : Type 0 where
  pub exact : (e : Edge) → Contains new e ↔ (Contains old e ⊎ IsTargeted v base count targets e)
  pub ascending : AreAscendingEdges new

module _ (v base : ℕ) (targets : List ℕ) (old : List Edge) where
  pub pushed_begin : AreAscendingEdges old → ArePushed v base 0 targets old old
  pushed_begin up = record { exact = λ e. (λ m. inl m, λ g. elim g [ inl m ↦ m | inr t ↦ absurd (omega (arith, t.early.1)) ]); ascending = up }

  -- one target more
  pub pushed_more : (at w : ℕ) (new : List Edge) → ArePushed v base at targets old new → AllPairs (λ a b. a < b) targets → ((e : Edge) → Contains old e → e.from < v) → at < length targets → get_or targets at w ≡ w → ArePushed v base (at + 1) targets old (new ++ flow_edge v (base + w) ∷ [])
  pushed_more at w new i order before low here = record {
    exact = λ e. (
      λ m. elim (Contains-push_cases new (flow_edge v (base + w)) e m) [
        | inl a ↦ elim ((i.exact e).0 a) [
          | inl b ↦ inl b
          | inr t ↦ inr (record { target = t.target; early = first_kept targets at t.target t.early; is = t.is })
        ]
        | inr q ↦ inr (record { target = w; early = (at, omega arith, here); is = sym q })
      ],
      λ g. elim g [
        | inl b ↦ Contains-append_left new (flow_edge v (base + w) ∷ []) e ((i.exact e).1 (inl b))
        | inr t ↦ elim (first_more targets at w t.target low here t.early) [
          | inl f ↦ Contains-append_left new (flow_edge v (base + w) ∷ []) e ((i.exact e).1 (inr (record { target = t.target; early = f; is = t.is })))
          | inr q ↦ subst (λ x. Contains (new ++ flow_edge v (base + w) ∷ []) x) (sym (t.is ∙ ap (λ y. flow_edge v (base + y)) (sym q))) (Contains-push new (flow_edge v (base + w)))
        ]
      ],
    );
    ascending =
        all_pairs_push IsBefore new (flow_edge v (base + w)) i.ascending (λ k d place.
        let e : Edge = get_or new k d in
        elim ((i.exact e).0 (Contains-get_or new k d place)) [
          | inl b ↦ inl (before e b)
          | inr t ↦
              let p = t.early in
              let up : get_or targets p.0 w < get_or targets at w = order p.0 at w p.1 low in
              let there : get_or targets p.0 w ≡ t.target = get_or_default targets p.0 w t.target (omega (arith, p.1, low)) ∙ p.2 in
              let q : e.to ≡ base + t.target = ap (λ (y : Edge). y.to) t.is in
              inr (ap (λ (y : Edge). y.from) t.is, inl (omega (arith, q, up, there, here)))
        ]);
  }

  pub pushed_end : (at n : ℕ) (new : List Edge) → ArePushed v base at targets old new → at ≡ n → (e : Edge) → Contains new e ↔ (Contains old e ⊎ IsTargeted v base n targets e)
  pushed_end at n new i end e = subst (λ k. Contains new e ↔ (Contains old e ⊎ IsTargeted v base k targets e)) end (i.exact e)

-- ---- the ends of a chain
module _ (base n : ℕ) (pairs : List Pair) (among : All (IsPairAmong base n) pairs) (kills : ℕ → ℕ → Bool) (l : ℕ) where
  pub chain_from : {v w : ℕ} → Chain (Leads pairs) kills l v w → (base ≤ v) × (v < base + n)
  chain_from {v = v} {w = w} (last m) = let e = leads_among base n pairs among v w m in (e.from_low, e.from_high)
  chain_from {v = v} (more {u = u} m k c) = let e = leads_among base n pairs among v u m in (e.from_low, e.from_high)

  pub chain_to : {v w : ℕ} → Chain (Leads pairs) kills l v w → (base ≤ w) × (w < base + n)
  chain_to {v = v} {w = w} (last m) = let e = leads_among base n pairs among v w m in (e.to_low, e.to_high)
  chain_to (more m k c) = chain_to c

-- ---- flow edges by targets
abbrev pub order_of : List Pair → FlowGraph
order_of xs = record { pairs = xs }

-- the flow edges from the vertices below v
abbrev pub AreFound : Skeleton → List Pair → ℕ → List Edge → Type 0
AreFound s pairs v es = (e : Edge) → Contains es e ↔ ((e.from < v) × IsRowFlow s (order_of pairs) e)

module _ (base n : ℕ) (s : Skeleton) (pairs : List Pair) (among : All (IsPairAmong base n) pairs) where
  row_flow_of : (v w : ℕ) (e : Edge) → FlowsAmong 0 s.defined.bits s pairs v w → e ≡ flow_edge v w → IsRowFlow s (order_of pairs) e
  row_flow_of v w e f is =
      let here : IsRowFlow s (order_of pairs) (flow_edge v w) = record {
        labelled = refl;
        flows = record { location = f.location; defined = f.flows.defined; used = f.flows.used; chain = f.flows.chain };
        numbered = f.below;
      } in
      subst (IsRowFlow s (order_of pairs)) (sym is) here

  among_of : (e : Edge) → IsRowFlow s (order_of pairs) e → FlowsAmong 0 s.defined.bits s pairs e.from e.to
  among_of e r = record {
    location = r.flows.location;
    above = omega arith;
    below = r.numbered;
    flows = record { defined = r.flows.defined; used = r.flows.used; chain = r.flows.chain };
  }

  -- the edges to targets are the flow edges from a vertex
  pub targeted_are : (v : ℕ) (targets : List ℕ) → ((w : ℕ) → Contains targets w ↔ FlowsAmong 0 s.defined.bits s pairs v (base + w)) → (e : Edge) → IsTargeted v base (length targets) targets e ↔ ((e.from ≡ v) × IsRowFlow s (order_of pairs) e)
  targeted_are v targets exact e = (
    λ t. (ap (λ (y : Edge). y.from) t.is, row_flow_of v (base + t.target) e ((exact t.target).0 t.early) t.is),
    λ p.
        let r = p.1 in
        let f = among_of e r in
        let to = chain_to base n pairs among (row_has s.killed) f.location f.flows.chain in
        let back : e.to ≡ base + (e.to - base) = omega (arith, to.0) in
        let g : FlowsAmong 0 s.defined.bits s pairs v (base + (e.to - base)) = subst (λ y. FlowsAmong 0 s.defined.bits s pairs v y) back (subst (λ y. FlowsAmong 0 s.defined.bits s pairs y e.to) p.0 f) in
        let label_is : e ≡ flow_edge e.from e.to = ap (λ (k : Label). let x : Edge = record { from = e.from; to = e.to; label = k } in x) r.labelled in
        record {
          target = e.to - base;
          early = (exact (e.to - base)).1 g;
          is = label_is ∙ ap (λ y. flow_edge y e.to) p.0 ∙ ap (flow_edge v) back;
        },
  )

  pub appended : (v : ℕ) (targets : List ℕ) (old new : List Edge) → ((w : ℕ) → Contains targets w ↔ FlowsAmong 0 s.defined.bits s pairs v (base + w)) → ((e : Edge) → Contains new e ↔ (Contains old e ⊎ IsTargeted v base (length targets) targets e)) → (e : Edge) → Contains new e ↔ (Contains old e ⊎ ((e.from ≡ v) × IsRowFlow s (order_of pairs) e))
  appended v targets old new exact pushed e =
      let t = targeted_are v targets exact e in (
        λ m. elim ((pushed e).0 m) [ inl a ↦ inl a | inr a ↦ inr (t.0 a) ],
        λ g. (pushed e).1 (elim g [ inl a ↦ inl a | inr a ↦ inr (t.1 a) ]),
      )

  -- ---- vertex by vertex
  pub found_begin : AreFound s pairs base []
  found_begin e = (λ m. absurd (contains_none e m), λ p. absurd (let f = p.1.flows in let a = chain_from base n pairs among (row_has s.killed) f.location f.chain in omega (arith, p.0, a.0)))

  pub found_more : (v : ℕ) (old new : List Edge) → AreFound s pairs v old → ((e : Edge) → Contains new e ↔ (Contains old e ⊎ ((e.from ≡ v) × IsRowFlow s (order_of pairs) e))) → AreFound s pairs (v + 1) new
  found_more v old new before step e = (
    λ m. elim ((step e).0 m) [
      | inl a ↦ let p = (before e).0 a in (omega (arith, p.0), p.1)
      | inr a ↦ (omega (arith, a.0), a.1)
    ],
    λ p. (step e).1 (elim (cases_eq e.from v) [
      | inl q ↦ inr (q, p.1)
      | inr q ↦ inl ((before e).1 (omega (arith, p.0, q), p.1))
    ]),
  )

  pub found_all : (v : ℕ) (es : List Edge) → base + n ≤ v → AreFound s pairs v es → (e : Edge) → Contains es e ↔ IsRowFlow s (order_of pairs) e
  found_all v es end found e = (
    λ m. ((found e).0 m).1,
    λ r. let f = r.flows in let a = chain_from base n pairs among (row_has s.killed) f.location f.chain in (found e).1 (omega (arith, end, a.1), r),
  )
