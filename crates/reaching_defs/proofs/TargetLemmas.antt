-- Locations of a row by the words that hold it, and the targets to which they flow.
use Rattle.std.proofs.Common.{◌≡◌, ℕ, ◌+◌, ◌*◌, ◌/◌, ◌%◌, ◌<◌, ◌≤◌, ◌⊎◌, ◌↔◌, inl, inr, Bool, true, false, eqb, List, [], length, get_or, Contains, sym, ap, ◌∙◌, subst, arith}
use Rattle.std.specs.Prelude.{IsTrue}
use Rattle.std.specs.Int.{bit_at}
use Rattle.std.proofs.lemmas.Bool.{cases_eq, cases_lt, false≢true}
use Rattle.bit_rows.specs.Sets.{has}
use Rattle.bit_rows.specs.Words.{word_bit, set_of, IsClean}
use Rattle.bit_rows.proofs.SetLemmas.{has_past}
use Rattle.bit_rows.proofs.WordLemmas.{length-set_of, has-set_of, no_bit}
use Rattle.dep_model.specs.declared.skeleton.Pair.{Pair}
use Rattle.dep_model.specs.declared.skeleton.Skeleton.{Skeleton}
use Rattle.dep_model.specs.Follows.{Chain}
use Rattle.rule_closure.proofs.ListLemmas.{contains_none}
use Rattle.reaching_defs.specs.Listings.{IsAmongFirst}
use Rattle.reaching_defs.specs.RowFlow.{row_has, Leads}
use Rattle.reaching_defs.specs.Stretches.{FlowsBy, FlowsAmong}
use Rattle.reaching_defs.proofs.ListingLemmas.{first_more, first_kept}

-- ---- a row and its words
-- what is known of the words of a row
pub record AreWordsOf (bits : ℕ) (words : List ℕ) (s : List Bool) : Type 0 where
  pub long : length words ≡ (bits + 63) / 64
  pub holds : set_of bits words ≡ s
  pub clean : IsClean bits words

pub words_of : {bits : ℕ} {words : List ℕ} {s : List Bool} → length words ≡ (bits + 63) / 64 → set_of bits words ≡ s → IsClean bits words → AreWordsOf bits words s
words_of long holds clean = record { long = long; holds = holds; clean = clean }

module _ (bits : ℕ) (words : List ℕ) (s : List Bool) (w : AreWordsOf bits words s) where
  size : length s ≡ bits
  size = sym (ap length w.holds) ∙ length-set_of bits words

  pub member_below : (k : ℕ) → IsTrue (has s k) → k < bits
  member_below k h = elim (cases_lt k bits) [
    | inl low ↦ low
    | inr high ↦ absurd (false≢true (sym (has_past s k (omega (arith, size))) ∙ h))
  ]

  pub member_is : (k : ℕ) → has s k ≡ word_bit words k
  member_is k = elim (cases_lt k bits) [
    | inl low ↦ sym (ap (λ t. has t k) w.holds) ∙ has-set_of bits words k low
    | inr high ↦ has_past s k (omega (arith, size)) ∙ sym (w.clean k high)
  ]

  pub bit_is : (at bit : ℕ) → bit < 64 → has s (64 * at + bit) ≡ eqb (bit_at (get_or words at 0) bit) 1
  bit_is at bit low =
      let place : (64 * at + bit) / 64 ≡ at = omega (arith, low) in
      let part : (64 * at + bit) % 64 ≡ bit = omega (arith, low) in
      member_is (64 * at + bit) ∙ ap (λ i. eqb (bit_at (get_or words i 0) ((64 * at + bit) % 64)) 1) place ∙ ap (λ i. eqb (bit_at (get_or words at 0) i) 1) part

  -- a word that is 0 has no member
  pub none_in : (at k : ℕ) → get_or words at 0 ≡ 0 → 64 * at ≤ k → k < 64 * at + 64 → IsTrue (has s k) → ⊥
  none_in at k zero low high h =
      let place : k / 64 ≡ at = omega (arith, low, high) in
      false≢true (sym (no_bit (get_or words (k / 64) 0) (k % 64) (ap (λ i. get_or words i 0) place ∙ zero)) ∙ sym (member_is k) ∙ h)

-- ---- the reached vertices that use a location
module _ (reached : List ℕ) (at u : ℕ) (here : at < length reached) (is : get_or reached at u ≡ u) (old t : List ℕ) (uses : ℕ → Bool) (before : (w : ℕ) → Contains t w ↔ (Contains old w ⊎ (IsAmongFirst reached at w × IsTrue (uses w)))) where
  pub collect_adds : uses u ≡ true → (t' : List ℕ) → ((w : ℕ) → Contains t' w ↔ (Contains t w ⊎ (w ≡ u))) → (w : ℕ) → Contains t' w ↔ (Contains old w ⊎ (IsAmongFirst reached (at + 1) w × IsTrue (uses w)))
  collect_adds used t' added w = (
    λ h. elim ((added w).0 h) [
      | inl a ↦ elim ((before w).0 a) [ inl b ↦ inl b | inr b ↦ inr (first_kept reached at w b.0, b.1) ]
      | inr q ↦ inr (subst (IsAmongFirst reached (at + 1)) (sym q) (at, omega arith, is), ap uses q ∙ used)
    ],
    λ g. (added w).1 (elim g [
      | inl b ↦ inl ((before w).1 (inl b))
      | inr b ↦ elim (first_more reached at u w here is b.0) [
        | inl f ↦ inl ((before w).1 (inr (f, b.1)))
        | inr q ↦ inr (sym q)
      ]
    ]),
  )

  pub collect_skips : uses u ≡ false → (w : ℕ) → Contains t w ↔ (Contains old w ⊎ (IsAmongFirst reached (at + 1) w × IsTrue (uses w)))
  collect_skips none w = (
    λ h. elim ((before w).0 h) [ inl b ↦ inl b | inr b ↦ inr (first_kept reached at w b.0, b.1) ],
    λ g. (before w).1 (elim g [
      | inl b ↦ inl b
      | inr b ↦ elim (first_more reached at u w here is b.0) [
        | inl f ↦ inr (f, b.1)
        | inr q ↦ absurd (false≢true (sym none ∙ ap uses q ∙ b.1))
      ]
    ]),
  )

-- all of a list are its first
pub collect_ends : (reached old t : List ℕ) (uses : ℕ → Bool) (at : ℕ) → at ≡ length reached → ((w : ℕ) → Contains t w ↔ (Contains old w ⊎ (IsAmongFirst reached at w × IsTrue (uses w)))) → (w : ℕ) → Contains t w ↔ (Contains old w ⊎ (Contains reached w × IsTrue (uses w)))
collect_ends reached old t uses at end all w = subst (λ k. Contains t w ↔ (Contains old w ⊎ (IsAmongFirst reached k w × IsTrue (uses w)))) end (all w)

-- ---- the locations of a stretch
module _ (s : Skeleton) (pairs : List Pair) (v w : ℕ) where
  pub among_none : (k : ℕ) → FlowsAmong k k s pairs v w → ⊥
  among_none k f = omega (arith, f.above, f.below)

  pub among_more : (low k : ℕ) → low ≤ k → FlowsAmong low (k + 1) s pairs v w ↔ (FlowsAmong low k s pairs v w ⊎ FlowsBy s pairs k v w)
  among_more low k up = (
    λ f. elim (cases_eq f.location k) [
      | inl q ↦ inr (subst (λ l. FlowsBy s pairs l v w) q f.flows)
      | inr q ↦ inl (record { location = f.location; above = f.above; below = omega (arith, f.below, q); flows = f.flows })
    ],
    λ g. elim g [
      | inl f ↦ record { location = f.location; above = f.above; below = omega (arith, f.below); flows = f.flows }
      | inr f ↦ record { location = k; above = up; below = omega arith; flows = f }
    ],
  )

  pub among_joined : (low middle high : ℕ) → low ≤ middle → middle ≤ high → FlowsAmong low high s pairs v w ↔ (FlowsAmong low middle s pairs v w ⊎ FlowsAmong middle high s pairs v w)
  among_joined low middle high up on = (
    λ f. elim (cases_lt f.location middle) [
      | inl q ↦ inl (record { location = f.location; above = f.above; below = q; flows = f.flows })
      | inr q ↦ inr (record { location = f.location; above = q; below = f.below; flows = f.flows })
    ],
    λ g. elim g [
      | inl f ↦ record { location = f.location; above = f.above; below = omega (arith, f.below); flows = f.flows }
      | inr f ↦ record { location = f.location; above = omega (arith, f.above); below = f.below; flows = f.flows }
    ],
  )

-- ---- targets, turn by turn
-- the targets are those there were, and those to which a location of the stretch flows
abbrev pub AreTargets : ℕ → ℕ → ℕ → Skeleton → List Pair → ℕ → List ℕ → List ℕ → Type 0
AreTargets base low high s pairs v old new =
    (w : ℕ) → Contains new w ↔ (Contains old w ⊎ FlowsAmong low high s pairs v (base + w))

module _ (base : ℕ) (s : Skeleton) (pairs : List Pair) (v : ℕ) (old : List ℕ) where
  pub targets_begin : (k : ℕ) → AreTargets base k k s pairs v old old
  targets_begin k w = (λ m. inl m, λ g. elim g [ inl m ↦ m | inr f ↦ absurd (among_none s pairs v (base + w) k f) ])

  -- a location that v may define is carried to the reached, of which those that use it are collected
  pub targets_by : (low k : ℕ) (t new reached : List ℕ) → low ≤ k → AreTargets base low k s pairs v old t → row_has s.defined v k ≡ true → ((w : ℕ) → Contains reached w ↔ Chain (Leads pairs) (row_has s.killed) k v (base + w)) → ((w : ℕ) → Contains new w ↔ (Contains t w ⊎ (Contains reached w × IsTrue (row_has s.used (base + w) k)))) → AreTargets base low (k + 1) s pairs v old new
  targets_by low k t new reached up before defined carried collected w = (
    λ m. elim ((collected w).0 m) [
      | inl a ↦ elim ((before w).0 a) [ inl b ↦ inl b | inr f ↦ inr ((among_more s pairs v (base + w) low k up).1 (inl f)) ]
      | inr a ↦ inr ((among_more s pairs v (base + w) low k up).1 (inr (record { defined = defined; used = a.1; chain = (carried w).0 a.0 })))
    ],
    λ g. (collected w).1 (elim g [
      | inl b ↦ inl ((before w).1 (inl b))
      | inr f ↦ elim ((among_more s pairs v (base + w) low k up).0 f) [
        | inl f' ↦ inl ((before w).1 (inr f'))
        | inr b ↦ inr ((carried w).1 b.chain, b.used)
      ]
    ]),
  )

  -- and one that it doesn't flows nowhere
  pub targets_pass : (low k : ℕ) (t : List ℕ) → low ≤ k → AreTargets base low k s pairs v old t → row_has s.defined v k ≡ false → AreTargets base low (k + 1) s pairs v old t
  targets_pass low k t up before none w = (
    λ m. elim ((before w).0 m) [ inl b ↦ inl b | inr f ↦ inr ((among_more s pairs v (base + w) low k up).1 (inl f)) ],
    λ g. (before w).1 (elim g [
      | inl b ↦ inl b
      | inr f ↦ elim ((among_more s pairs v (base + w) low k up).0 f) [
        | inl f' ↦ inr f'
        | inr b ↦ absurd (false≢true (sym none ∙ b.defined))
      ]
    ]),
  )

  pub targets_to : (low k high : ℕ) (t : List ℕ) → k ≡ high → AreTargets base low k s pairs v old t → AreTargets base low high s pairs v old t
  targets_to low k high t same all = subst (λ j. AreTargets base low j s pairs v old t) same all

  -- the locations of a stretch after those before it
  pub targets_join : (low middle high : ℕ) (t new : List ℕ) → low ≤ middle → middle ≤ high → AreTargets base low middle s pairs v old t → AreTargets base middle high s pairs v t new → AreTargets base low high s pairs v old new
  targets_join low middle high t new up on first second w = (
    λ m. elim ((second w).0 m) [
      | inl a ↦ elim ((first w).0 a) [ inl b ↦ inl b | inr f ↦ inr ((among_joined s pairs v (base + w) low middle high up on).1 (inl f)) ]
      | inr f ↦ inr ((among_joined s pairs v (base + w) low middle high up on).1 (inr f))
    ],
    λ g. (second w).1 (elim g [
      | inl b ↦ inl ((first w).1 (inl b))
      | inr f ↦ elim ((among_joined s pairs v (base + w) low middle high up on).0 f) [
        | inl f' ↦ inl ((first w).1 (inr f'))
        | inr f' ↦ inr f'
      ]
    ]),
  )

  -- a stretch of which v may define nothing
  pub targets_skip : (low middle high : ℕ) (t : List ℕ) → low ≤ middle → middle ≤ high → AreTargets base low middle s pairs v old t → ((k : ℕ) → middle ≤ k → k < high → row_has s.defined v k ≡ true → ⊥) → AreTargets base low high s pairs v old t
  targets_skip low middle high t up on first none =
      targets_join low middle high t t up on first (λ w. (λ m. inl m, λ g. elim g [ inl m ↦ m | inr f ↦ absurd (none f.location f.above f.below f.flows.defined) ]))

  -- the 64 locations of a word
  pub word_adds : (at : ℕ) (t new : List ℕ) → AreTargets base 0 (64 * at) s pairs v old t → AreTargets base (64 * at) (64 * at + 64) s pairs v t new → AreTargets base 0 (64 * (at + 1)) s pairs v old new
  word_adds at t new first second =
      let e : 64 * at + 64 ≡ 64 * (at + 1) = omega arith in
      subst (λ k. AreTargets base 0 k s pairs v old new) e (targets_join 0 (64 * at) (64 * at + 64) t new (omega arith) (omega arith) first second)

  pub word_passes : (at : ℕ) (t : List ℕ) → AreTargets base 0 (64 * at) s pairs v old t → ((k : ℕ) → 64 * at ≤ k → k < 64 * at + 64 → row_has s.defined v k ≡ true → ⊥) → AreTargets base 0 (64 * (at + 1)) s pairs v old t
  word_passes at t first none =
      let e : 64 * at + 64 ≡ 64 * (at + 1) = omega arith in
      subst (λ k. AreTargets base 0 k s pairs v old t) e (targets_skip 0 (64 * at) (64 * at + 64) t (omega arith) (omega arith) first none)

  -- from no targets, with all words
  pub words_end : (bits at : ℕ) (t : List ℕ) → old ≡ [] → AreTargets base 0 (64 * at) s pairs v old t → bits ≤ 64 * at → ((k : ℕ) → row_has s.defined v k ≡ true → k < bits) → (w : ℕ) → Contains t w ↔ FlowsAmong 0 bits s pairs v (base + w)
  words_end bits at t none all end in_ w = (
    λ m. elim ((all w).0 m) [
      | inl b ↦ absurd (contains_none w (subst (λ x. Contains x w) none b))
      | inr f ↦ record { location = f.location; above = f.above; below = in_ f.location f.flows.defined; flows = f.flows }
    ],
    λ f. (all w).1 (inr (record { location = f.location; above = f.above; below = omega (arith, f.below, end); flows = f.flows })),
  )
