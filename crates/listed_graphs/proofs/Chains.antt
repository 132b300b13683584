-- From which vertices a chain without a kill leads to one is a set that can be found, where the order is a list of pairs.
use Rattle.std.proofs.Common.{◌≡◌, ◌↔◌, ℕ, ◌⊎◌, inl, inr, List, map, Bool, true, false, ◌==◌, refl, sym, ◌∙◌, subst, eq-eqb}
use Rattle.std.proofs.lemmas.Bool.{cases_Bool, cases_eq, eqb-true, false≢true}
use Rattle.dep_model.specs.declared.skeleton.Pair.{Pair}
use Rattle.dep_model.specs.Follows.{Chain, last, more}
use Rattle.dep_model.specs.Pairs.{pair}
use Rattle.dep_model.proofs.Membership.{IsIn, in_map}
use Rattle.listed_graphs.proofs.Growth.{search, IsNew, grow}

abbrev pub same : ℕ → ℕ → Bool
same a b = a == b

pub alike : (a b : ℕ) → same a b ≡ true → a ≡ b
alike a b h = eqb-true a b h

pub itself : (a : ℕ) → same a a ≡ true
itself a = eq-eqb a a refl

module _ {L : Type 0} (R : ℕ → ℕ → Type 0) (pairs : List Pair) (are : (x : Pair) → IsIn pairs x ↔ R x.from x.to) (kills : ℕ → L → Bool) (l : L) where
  abbrev Leads : ℕ → ℕ → Type 0
  Leads w v = Chain R kills l v w

  -- a pair leads to the end, or on
  abbrev Goes : ℕ → (ℕ → Bool) → Pair → Type 0
  Goes w test x = (x.to ≡ w) ⊎ ((kills x.to l ≡ false) × (test x.to ≡ true))

  abbrev Closed : ℕ → (ℕ → Bool) → Type 0
  Closed w test = (x : Pair) → IsIn pairs x → Goes w test x → test x.from ≡ true

  goes : (w : ℕ) (test : ℕ → Bool) (x : Pair) → Goes w test x ⊎ (Goes w test x → ⊥)
  goes w test x = elim (cases_eq x.to w) [
    | inl end ↦ inl (inl end)
    | inr other ↦ elim (cases_Bool (kills x.to l)) [
      | inl killed ↦ inr (λ g. elim g [ inl end ↦ other end | inr k ↦ false≢true (sym k.0 ∙ killed) ])
      | inr open_ ↦ elim (cases_Bool (test x.to)) [
        | inl there ↦ inl (inr (open_, there))
        | inr none ↦ inr (λ g. elim g [ inl end ↦ other end | inr k ↦ false≢true (sym none ∙ k.1) ])
      ]
    ]
  ]

  chain_of : (w : ℕ) (test : ℕ → Bool) → ((v : ℕ) → test v ≡ true → Leads w v) → (x : Pair) → IsIn pairs x → Goes w test x → Leads w x.from
  chain_of w test sound x at (inl end) = last (subst (R x.from) end ((are x).0 at))
  chain_of w test sound x at (inr k) = more ((are x).0 at) k.0 (sound x.to k.1)

  step : (w : ℕ) (test : ℕ → Bool) → ((v : ℕ) → test v ≡ true → Leads w v) → IsNew same alike itself (Leads w) (map (λ (x : Pair). x.from) pairs) test ⊎ Closed w test
  step w test sound = elim (search (λ x. Goes w test x → test x.from ≡ true) (λ x. IsNew same alike itself (Leads w) (map (λ (y : Pair). y.from) pairs) test) pairs (λ x at.
      elim (cases_Bool (test x.from)) [
        | inl there ↦ inr (λ g. there)
        | inr none ↦ elim (goes w test x) [
          | inr not_ ↦ inr (λ g. absurd (not_ g))
          | inl g ↦ inl (record {
            item = x.from;
            member = in_map (λ (y : Pair). y.from) pairs x at;
            none = none;
            has = chain_of w test sound x at g;
          })
        ]
      ])) [
        | inl w_ ↦ inl w_.1
        | inr each ↦ inr each
      ]

  all_led : (w : ℕ) (test : ℕ → Bool) → Closed w test → (v : ℕ) → Chain R kills l v w → test v ≡ true
  all_led w test closed v (last o) = closed (pair v w) ((are (pair v w)).1 o) (inl refl)
  all_led w test closed v (more {u = u} o k rest) = closed (pair v u) ((are (pair v u)).1 o) (inr (k, all_led w test closed u rest))

  -- whether a chain leads from v to w
  pub chain_or_none : (v w : ℕ) → Chain R kills l v w ⊎ (Chain R kills l v w → ⊥)
  chain_or_none v w =
      let g = grow same alike itself (Leads w) (map (λ (x : Pair). x.from) pairs) (Closed w) (step w) in
      elim (cases_Bool (g.test v)) [
        | inl there ↦ inl (g.sound v there)
        | inr none ↦ inr (λ c. false≢true (sym none ∙ all_led w g.test g.closed v c))
      ]
