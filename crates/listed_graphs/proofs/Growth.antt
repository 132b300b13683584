-- A set that grows, item by item, ends closed: the set is a test, and its items lie in a list.
use Rattle.std.proofs.Common.{◌≡◌, ℕ, zero, suc, ◌+◌, ◌<◌, ◌≤◌, ◌⊎◌, inl, inr, List, [], ◌∷◌, Bool, true, false, ◌||◌, refl, ap, ◌∙◌, subst, arith}
use Rattle.std.specs.Prelude.{if◌then◌else◌}
use Rattle.std.proofs.lemmas.Bool.{cases_Bool, false≢true, or_right, or_cases}
use Rattle.dep_model.proofs.Membership.{IsIn}

-- ---- searches

-- one item of a list has Q, or each has P
pub search : {A : Type 0} (P Q : A → Type 0) (xs : List A) → ((x : A) → IsIn xs x → Q x ⊎ P x) → ((x : A) × Q x) ⊎ ((x : A) → IsIn xs x → P x)
search P Q [] each = inr (λ x h. absurd h)
search P Q (y ∷ ys) each = elim (each y (inl refl)) [
  | inl found ↦ inl (y, found)
  | inr here ↦ elim (search P Q ys (λ x h. each x (inr h))) [
    | inl found ↦ inl found
    | inr rest ↦ inr (λ x h. elim h [ inl same ↦ subst P same here | inr later ↦ rest x later ])
  ]
]

-- ---- what is missing of a list

module _ {A : Type 0} (same : A → A → Bool) where
  -- one item more
  abbrev pub with_item : A → (A → Bool) → A → Bool
  with_item x test y = test y || same x y

  -- how many of a list don't pass
  abbrev pub missing : (A → Bool) → List A → ℕ
  missing test [] = 0
  missing test (x ∷ xs) = (if test x then 0 else 1) + missing test xs

  one_fewer : (x y : A) (test : A → Bool) → (if with_item x test y then 0 else 1) ≤ (if test y then 0 else 1)
  one_fewer x y test = elim (cases_Bool (test y)) [
    | inl there ↦ rw there (omega arith)
    | inr none ↦ rw none (by_test (same x y))
  ]
    where
      by_test : (b : Bool) → (if b then 0 else 1) ≤ 1
      by_test true = omega arith
      by_test false = omega arith

  missing_falls : (x : A) (test : A → Bool) (xs : List A) → missing (with_item x test) xs ≤ missing test xs
  missing_falls x test [] = omega arith
  missing_falls x test (y ∷ ys) = let here = one_fewer x y test in let rest = missing_falls x test ys in omega (arith, here, rest)

  missing_less : ((x : A) → same x x ≡ true) → (x : A) (test : A → Bool) (xs : List A) → IsIn xs x → test x ≡ false → missing (with_item x test) xs < missing test xs
  missing_less itself x test [] h none = absurd h
  missing_less itself x test (y ∷ ys) (inl is) none =
      let rest = missing_falls x test ys in
      let there : with_item x test y ≡ true = or_right (test y) (same x y) (ap (same x) is ∙ itself x) in
      let open_ : test y ≡ false = ap test is ∙ none in
      rw there (rw open_ (omega (arith, rest)))
  missing_less itself x test (y ∷ ys) (inr later) none =
      let here = one_fewer x y test in
      let rest = missing_less itself x test ys later none in
      omega (arith, here, rest)

-- ---- growing

module _ {A : Type 0} (same : A → A → Bool) (alike : (x y : A) → same x y ≡ true → x ≡ y) (itself : (x : A) → same x x ≡ true) (P : A → Type 0) where
  -- what passes has P
  abbrev pub IsSound : (A → Bool) → Type 0
  IsSound test = (x : A) → test x ≡ true → P x

  -- an item of a list that has P and doesn't pass
  pub record IsNew (xs : List A) (test : A → Bool) : Type 0 where
    pub item : A
    pub member : IsIn xs item
    pub none : test item ≡ false
    pub has : P item

  -- a closed set of what has P
  pub record Grown (Closed : (A → Bool) → Type 0) : Type 0 where
    pub test : A → Bool
    pub sound : IsSound test
    pub closed : Closed test

  sound_more : (test : A → Bool) (x : A) → IsSound test → P x → IsSound (with_item same x test)
  sound_more test x sound has y h = elim (or_cases (test y) (same x y) h) [
    | inl old ↦ sound y old
    | inr new ↦ subst P (alike x y new) has
  ]

  module _ (xs : List A) (Closed : (A → Bool) → Type 0) (step : (test : A → Bool) → IsSound test → IsNew xs test ⊎ Closed test) where
    grow_from : (room : ℕ) (test : A → Bool) → IsSound test → missing same test xs ≤ room → Grown Closed
    grow_from zero test sound few = elim (step test sound) [
      | inl new ↦ let less = missing_less same itself new.item test xs new.member new.none in absurd (omega (arith, less, few))
      | inr closed ↦ record { test = test; sound = sound; closed = closed }
    ]
    grow_from (suc room) test sound few = elim (step test sound) [
      | inl new ↦
          let less = missing_less same itself new.item test xs new.member new.none in
          grow_from room (with_item same new.item test) (sound_more test new.item sound new.has) (omega (arith, less, few))
      | inr closed ↦ record { test = test; sound = sound; closed = closed }
    ]

    -- where each set of what has P is closed, or lacks an item of the list, some set is closed
    pub grow : Grown Closed
    grow = grow_from (missing same (λ x. false) xs) (λ x. false) (λ x h. absurd (false≢true h)) (omega arith)
