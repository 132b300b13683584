-- The members of a list at kept places, one place after another.
use Rattle.std.proofs.Common.{◌≡◌, ℕ, zero, suc, ◌+◌, ◌<◌, List, [], ◌∷◌, ◌++◌, map, length, drop, get_or, Bool, true, false, ◌&&◌, ◌||◌, append_assoc, arith, add-one, refl, sym, ap, ◌∙◌}
use Rattle.std.specs.Prelude.{◌==◌}
use Rattle.c_language.proofs.Tests.{by_answer, or_assoc}
use Rattle.c_language.proofs.Turns.{drop_turn}
use Rattle.projection.specs.Kept.{chosen}
use Rattle.projection.specs.KeptVertices.{is_among}

module _ (test : ℕ → Bool) (x : ℕ) where
  first_among : (m y : ℕ) (ys : List ℕ) → is_among (chosen test m (y ∷ ys)) x ≡ ((test m && (y == x)) || is_among (chosen test (suc m) ys) x)
  first_among m y ys = by_answer (test m) (λ k. rw k refl) (λ k. rw k refl)

  among_from : (m n : ℕ) (xs : List ℕ) → n < length xs → is_among (chosen test m (drop n xs)) x ≡ ((test m && (get_or xs n 0 == x)) || is_among (chosen test (suc m) (drop (suc n) xs)) x)
  among_from m n [] lt = absurd (omega (arith, lt))
  among_from m zero (y ∷ ys) lt = first_among m y ys
  among_from m (suc n) (y ∷ ys) lt = among_from m n ys (omega (arith, lt))

  pub among_next : (n : ℕ) (xs : List ℕ) → n < length xs → is_among (chosen test n (drop n xs)) x ≡ ((test n && (get_or xs n 0 == x)) || is_among (chosen test (n + 1) (drop (n + 1) xs)) x)
  among_next n xs lt = rw (add-one) (among_from n n xs lt)

  -- one more place was looked at
  pub among_turn : (n : ℕ) (xs : List ℕ) (old new whole : Bool) → n < length xs → new ≡ (old || (test n && (get_or xs n 0 == x))) → (old || is_among (chosen test n (drop n xs)) x) ≡ whole → (new || is_among (chosen test (n + 1) (drop (n + 1) xs)) x) ≡ whole
  among_turn n xs old new whole lt adds inv =
      ap (λ t. t || is_among (chosen test (n + 1) (drop (n + 1) xs)) x) adds
      ∙ or_assoc old (test n && (get_or xs n 0 == x)) (is_among (chosen test (n + 1) (drop (n + 1) xs)) x)
      ∙ ap (λ t. old || t) (sym (among_next n xs lt)) ∙ inv

-- a loop that appends what a function gives for each member at a kept place
module _ {X Y : Type 0} (test : ℕ → Bool) (f : X → Y) where
  first_kept : (n : ℕ) (x : X) (xs : List X) → test n ≡ true → chosen test n (x ∷ xs) ≡ x ∷ chosen test (n + 1) xs
  first_kept n x xs kept = rw (kept, add-one) refl

  first_left : (n : ℕ) (x : X) (xs : List X) → test n ≡ false → chosen test n (x ∷ xs) ≡ chosen test (n + 1) xs
  first_left n x xs left = rw (left, add-one) refl

  -- its next member is kept
  pub chosen_turn : (n : ℕ) (xs : List X) (x : X) (old new whole : List Y) (y : Y) → n < length xs → x ≡ get_or xs n x → test n ≡ true → y ≡ f x → new ≡ old ++ y ∷ []
      → old ++ map f (chosen test n (drop n xs)) ≡ whole → new ++ map f (chosen test (n + 1) (drop (n + 1) xs)) ≡ whole
  chosen_turn n xs x old new whole y lt at kept gives pushed inv =
      let rest : List Y = map f (chosen test (n + 1) (drop (n + 1) xs)) in
      ap (λ z. z ++ rest) (pushed ∙ ap (λ z. old ++ z ∷ []) gives) ∙ append_assoc old (f x ∷ []) rest
      ∙ ap (λ z. old ++ map f z) (sym (ap (chosen test n) (drop_turn xs n x lt at) ∙ first_kept n x (drop (n + 1) xs) kept)) ∙ inv

  -- it isn't
  pub chosen_skip : (n : ℕ) (xs : List X) (x : X) (old whole : List Y) → n < length xs → x ≡ get_or xs n x → test n ≡ false
      → old ++ map f (chosen test n (drop n xs)) ≡ whole → old ++ map f (chosen test (n + 1) (drop (n + 1) xs)) ≡ whole
  chosen_skip n xs x old whole lt at left inv =
      ap (λ z. old ++ map f z) (sym (ap (chosen test n) (drop_turn xs n x lt at) ∙ first_left n x (drop (n + 1) xs) left)) ∙ inv
