-- What has come to vertices, as words are joined into their rows.
use Rattle.std.proofs.Common.{◌≡◌, ℕ, ◌+◌, ◌*◌, ◌/◌, ◌<◌, ◌≤◌, ◌⊎◌, ◌↔◌, inl, inr, Bool, true, false, ◌||◌, List, [], length, get_or, replicate, Contains, refl, sym, ap, ◌∙◌, subst, arith}
use Rattle.std.proofs.lemmas.Bool.{cases_eq, cases_lt, false≢true}
use Rattle.std.proofs.lemmas.List.{get_or_default}
use Rattle.std.proofs.lemmas.List.Sums.{sum_by-le, count_by-le-length}
use Rattle.bit_rows.specs.Sets.{has, union, count_of}
use Rattle.bit_rows.specs.Tables.{Table, the_set, with_set, Holds, IsSized, IsGrown, count_all}
use Rattle.bit_rows.specs.Words.{word_bit, set_of, IsClean}
use Rattle.bit_rows.proofs.SetLemmas.{has-union, has-empty, has_past}
use Rattle.bit_rows.proofs.TableLemmas.{the_set-with_set, other-with_set}
use Rattle.bit_rows.proofs.WordLemmas.{length-set_of, has-set_of, word_bit_past}
use Rattle.reaching_defs.specs.declared.arrivals.Arrivals.{Arrivals}
use Rattle.reaching_defs.specs.Arrivals.{IsRoomy, HasGained}
use Rattle.reaching_defs.proofs.HeldLemmas.{bit_early}

-- ---- gains
pub gained_none : (because : ℕ → ℕ → Type 0) (a : Arrivals) → IsRoomy a → HasGained because a a
gained_none because a r = record {
  roomy = r;
  bound_stays = refl;
  bits_stay = refl;
  kept = λ w t h. h;
  sound = λ w t h. inl h;
  noted = λ w t h. inl h;
  grown_stay = λ w m. m;
  reached_stay = λ w m. m;
  counted = omega arith;
  more = λ w m. inl m;
}

pub gained_weaker : (because other : ℕ → ℕ → Type 0) (a b : Arrivals) → ((w t : ℕ) → because w t → other w t) → HasGained because a b → HasGained other a b
gained_weaker because other a b weaker g = record {
  roomy = g.roomy;
  bound_stays = g.bound_stays;
  bits_stay = g.bits_stay;
  kept = g.kept;
  sound = λ w t h. elim (g.sound w t h) [ inl o ↦ inl o | inr r ↦ inr (weaker w t r) ];
  noted = g.noted;
  grown_stay = g.grown_stay;
  reached_stay = g.reached_stay;
  counted = g.counted;
  more = g.more;
}

pub gained_twice : (because : ℕ → ℕ → Type 0) (a b c : Arrivals) → HasGained because a b → HasGained because b c → HasGained because a c
gained_twice because a b c g h = record {
  roomy = h.roomy;
  bound_stays = h.bound_stays ∙ g.bound_stays;
  bits_stay = h.bits_stay ∙ g.bits_stay;
  kept = λ w t x. h.kept w t (g.kept w t x);
  sound = λ w t x. elim (h.sound w t x) [ inl o ↦ g.sound w t o | inr r ↦ inr r ];
  noted = λ w t x. elim (h.noted w t x) [
    | inl o ↦ elim (g.noted w t o) [
      | inl old ↦ inl old
      | inr m ↦ inr (h.grown_stay w m.0, h.reached_stay w m.1)
    ]
    | inr m ↦ inr m
  ];
  grown_stay = λ w m. h.grown_stay w (g.grown_stay w m);
  reached_stay = λ w m. h.reached_stay w (g.reached_stay w m);
  counted = omega (arith, g.counted, h.counted);
  more = λ w m. elim (h.more w m) [
    | inl o ↦ elim (g.more w o) [
      | inl old ↦ inl old
      | inr up ↦ inr (omega (arith, up, h.counted))
    ]
    | inr up ↦ inr (omega (arith, up, g.counted))
  ];
}

-- ---- words that fit
pub fits_clean : (bits : ℕ) (words : List ℕ) → 64 * length words ≤ bits → IsClean bits words
fits_clean bits words fits i high = word_bit_past words i (omega (arith, fits, high))

pub fits_width : (bits : ℕ) (words : List ℕ) → 64 * length words ≤ bits → length words ≤ (bits + 63) / 64
fits_width bits words fits = omega (arith, fits)

-- ---- words joined into the row of w
module _ (n bits : ℕ) (old new : Table) (w : ℕ) (words : List ℕ) (size : IsSized n bits old) (inside : w < n) (fits : 64 * length words ≤ bits) (is : new ≡ with_set old w (union (the_set old w) (set_of bits words))) where
  row_is : the_set new w ≡ union (the_set old w) (set_of bits words)
  row_is = ap (λ t. the_set t w) is ∙ the_set-with_set old w (union (the_set old w) (set_of bits words)) (omega (arith, inside, size.rows_are))

  here : (t : ℕ) → t < bits → has (the_set new w) t ≡ (has (the_set old w) t || word_bit words t)
  here t low =
      let long : length (the_set old w) ≡ length (set_of bits words) = size.full w inside ∙ sym (length-set_of bits words) in
      ap (λ s. has s t) row_is ∙ has-union (the_set old w) (set_of bits words) t long ∙ ap (λ b. has (the_set old w) t || b) (has-set_of bits words t low)

  pub joined_all : (t : ℕ) → word_bit words t ≡ true → Holds new w t
  joined_all t h = here t (omega (arith, fits, bit_early words t h)) ∙ ap (λ b. has (the_set old w) t || b) h ∙ or_true (has (the_set old w) t)
    where
      or_true : (b : Bool) → (b || true) ≡ true
      or_true true = refl
      or_true false = refl

  row_cases : IsSized n bits new → (t : ℕ) → Holds new w t → Holds old w t ⊎ (word_bit words t ≡ true)
  row_cases wide t h = elim (cases_lt t bits) [
    | inl low ↦ either (has (the_set old w) t) (word_bit words t) (sym (here t low) ∙ h)
    | inr high ↦ absurd (false≢true (sym (has_past (the_set new w) t (let l = wide.full w inside in omega (arith, l, high))) ∙ h))
  ]
    where
      either : (a b : Bool) → (a || b) ≡ true → (a ≡ true) ⊎ (b ≡ true)
      either true b e = inl refl
      either false b e = inr e

  pub joined_cases : IsSized n bits new → (u t : ℕ) → Holds new u t → Holds old u t ⊎ ((u ≡ w) × (word_bit words t ≡ true))
  joined_cases wide u t h = elim (cases_eq u w) [
    | inl q ↦ elim (row_cases wide t (subst (λ x. Holds new x t) q h)) [
      | inl o ↦ inl (subst (λ x. Holds old x t) (sym q) o)
      | inr b ↦ inr (q, b)
    ]
    | inr q ↦ inl (ap (λ s. has s t) (sym (other-with_set old w u (union (the_set old w) (set_of bits words)) q)) ∙ ap (λ x. has (the_set x u) t) (sym is) ∙ h)
  ]

-- what a join of words makes, where it tells whether the row has changed
pub record IsJoined (w : ℕ) (words : List ℕ) (old new : Arrivals) (changed : Bool) : Type 0 where
  pub rows_are : new.rows ≡ with_set old.rows w (union (the_set old.rows w) (set_of old.rows.bits words))
  pub grows : IsGrown old.rows new.rows changed
  pub sized : IsSized old.reached.bound old.rows.bits new.rows
  pub reached_bound : new.reached.bound ≡ old.reached.bound
  pub grown_bound : new.grown.bound ≡ old.grown.bound
  pub reached_are : (u : ℕ) → Contains new.reached.members u ↔ (Contains old.reached.members u ⊎ ((changed ≡ true) × (u ≡ w)))
  pub grown_are : (u : ℕ) → Contains new.grown.members u ↔ (Contains old.grown.members u ⊎ ((changed ≡ true) × (u ≡ w)))

-- what was added where the row has changed
pub told : {A B C : Type 0} → (A ↔ (B ⊎ C)) → A ↔ (B ⊎ ((true ≡ true) × C))
told e = (
  λ a. elim (e.0 a) [ inl b ↦ inl b | inr c ↦ inr (refl, c) ],
  λ g. e.1 (elim g [ inl b ↦ inl b | inr p ↦ inr p.1 ]),
)

module _ (w : ℕ) (words : List ℕ) (old new : Arrivals) (r : IsRoomy old) (inside : w < old.reached.bound) (fits : 64 * length words ≤ old.rows.bits) where
  pub joined_roomy : (changed : Bool) → IsJoined w words old new changed → IsRoomy new
  joined_roomy changed j = record {
    sized = subst (λ n. IsSized n new.rows.bits new.rows) (sym j.reached_bound) (subst (λ b. IsSized old.reached.bound b new.rows) (sym j.sized.bits_are) j.sized);
    same = j.grown_bound ∙ r.same ∙ sym j.reached_bound;
  }

  pub joined_holds : (changed : Bool) → IsJoined w words old new changed → (t : ℕ) → word_bit words t ≡ true → Holds new.rows w t
  joined_holds changed j = joined_all old.reached.bound old.rows.bits old.rows new.rows w words r.sized inside fits j.rows_are

  cases : (changed : Bool) → IsJoined w words old new changed → (u t : ℕ) → Holds new.rows u t → Holds old.rows u t ⊎ ((u ≡ w) × (word_bit words t ≡ true))
  cases changed j = joined_cases old.reached.bound old.rows.bits old.rows new.rows w words r.sized inside fits j.rows_are j.sized

  noted_ : (changed : Bool) → IsJoined w words old new changed → (u t : ℕ) → Holds new.rows u t → Holds old.rows u t ⊎ (Contains new.grown.members u × Contains new.reached.members u)
  noted_ true j u t h = elim (cases true j u t h) [
    | inl o ↦ inl o
    | inr p ↦ inr ((j.grown_are u).1 (inr (refl, p.0)), (j.reached_are u).1 (inr (refl, p.0)))
  ]
  noted_ false j u t h = inl (subst (λ x. Holds x u t) (j.grows.same refl) h)

  counted_ : (changed : Bool) → IsJoined w words old new changed → count_all old.rows ≤ count_all new.rows
  counted_ true j = let up = j.grows.more refl in omega (arith, up)
  counted_ false j = let e = ap count_all (j.grows.same refl) in omega (arith, e)

  pub joined_gained : (changed : Bool) → IsJoined w words old new changed → HasGained (λ u t. (u ≡ w) × (word_bit words t ≡ true)) old new
  joined_gained changed j = record {
    roomy = joined_roomy changed j;
    bound_stays = j.reached_bound;
    bits_stay = j.sized.bits_are;
    kept = j.grows.kept;
    sound = cases changed j;
    noted = noted_ changed j;
    grown_stay = λ u m. (j.grown_are u).1 (inl m);
    reached_stay = λ u m. (j.reached_are u).1 (inl m);
    counted = counted_ changed j;
    more = λ u m. elim ((j.grown_are u).0 m) [ inl o ↦ inl o | inr p ↦ inr (j.grows.more p.0) ];
  }

-- ---- rows that are made empty, one by one
-- what still holds something stands at a place of the list from `at` on
abbrev pub AreLeftRows : List ℕ → ℕ → Table → Type 0
AreLeftRows members at rows = (u t : ℕ) → Holds rows u t → (i : ℕ) × (at ≤ i) × (i < length members) × (get_or members i u ≡ u)

pub rows_left_begin : (members : List ℕ) (rows : Table) → ((u t : ℕ) → Holds rows u t → Contains members u) → AreLeftRows members 0 rows
rows_left_begin members rows listed u t h = let m = listed u t h in (m.0, omega arith, m.1, m.2)

pub rows_left_less : (n bits : ℕ) (members : List ℕ) (at w : ℕ) (old new : Table) → IsSized n bits old → w < n → at < length members → get_or members at w ≡ w → new ≡ with_set old w (replicate old.bits false) → AreLeftRows members at old → AreLeftRows members (at + 1) new
rows_left_less n bits members at w old new size inside low is_at is left u t h = elim (cases_eq u w) [
  | inl q ↦
      let empty_ : the_set new w ≡ replicate old.bits false = ap (λ x. the_set x w) is ∙ the_set-with_set old w (replicate old.bits false) (omega (arith, inside, size.rows_are)) in
      absurd (false≢true (sym (has-empty old.bits t) ∙ sym (ap (λ s. has s t) empty_) ∙ subst (λ x. Holds new x t) q h))
  | inr q ↦
      let same : the_set new u ≡ the_set old u = ap (λ x. the_set x u) is ∙ other-with_set old w u (replicate old.bits false) q in
      let l = left u t (ap (λ s. has s t) (sym same) ∙ h) in
      elim (cases_eq l.0 at) [
        | inl e ↦ absurd (q (sym l.3 ∙ ap (λ k. get_or members k u) e ∙ get_or_default members at u w low ∙ is_at))
        | inr e ↦ (l.0, omega (arith, l.1, e), l.2, l.3)
      ]
]

pub rows_left_none : (members : List ℕ) (at : ℕ) (rows : Table) → AreLeftRows members at rows → length members ≤ at → (u t : ℕ) → Holds rows u t → ⊥
rows_left_none members at rows left end u t h = let l = left u t h in omega (arith, l.1, l.2, end)

-- ---- how much rows can hold
pub count_bounded : (n bits : ℕ) (t : Table) → IsSized n bits t → count_all t ≤ n * bits
count_bounded n bits t s =
    let each = sum_by-le count_of bits t.sets (λ k d h.
    let row : List Bool = get_or t.sets k d in
    let rows = s.rows_are in
    let long : length row ≡ bits = ap length (get_or_default t.sets k d [] h) ∙ s.full k (omega (arith, rows, h)) in
    let most = count_by-le-length (λ (b : Bool). b) row in
    omega (arith, long, most)) in
    subst (λ m. count_all t ≤ m) (ap (λ k. k * bits) s.rows_are) each
