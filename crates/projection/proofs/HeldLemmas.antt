-- What vertices of a set hold, one vertex after another.
use Rattle.std.proofs.Common.{◌≡◌, ℕ, zero, suc, ◌+◌, ◌<◌, ◌≤◌, List, [], ◌∷◌, length, drop, take, Bool, true, false, ◌&&◌, ◌||◌, slice_get, arith, add-one, refl, sym, ap, ◌∙◌}
use Rattle.std.specs.Option.{option_map_or}
use Rattle.bit_rows.specs.Sets.{has}
use Rattle.c_language.proofs.Tests.{or_none, or_assoc}
use Rattle.dep_model.specs.declared.vertex.Vertex.{Vertex}
use Rattle.projection.specs.KeptVertices.{holds}

module _ (set : List Bool) (test : Vertex → Bool) where
  from_next : (m n : ℕ) (vs : List Vertex) → n < length vs → holds set test m (drop n vs) ≡ ((has set m && option_map_or test (slice_get vs n) false) || holds set test (suc m) (drop (suc n) vs))
  from_next m n [] lt = absurd (omega (arith, lt))
  from_next m zero (v ∷ vs) lt = refl
  from_next m (suc n) (v ∷ vs) lt = from_next m n vs (omega (arith, lt))

  -- the vertex with the next number, and those behind it
  pub holds_next : (n : ℕ) (vs : List Vertex) → n < length vs → holds set test n (drop n vs) ≡ ((has set n && option_map_or test (slice_get vs n) false) || holds set test (n + 1) (drop (n + 1) vs))
  holds_next n vs lt = rw (add-one) (from_next n n vs lt)

  -- past the last vertex nothing is held
  pub holds_past : (m n : ℕ) (vs : List Vertex) → length vs ≤ n → holds set test m (drop n vs) ≡ false
  holds_past m zero [] le = refl
  holds_past m (suc n) [] le = refl
  holds_past m zero (v ∷ vs) le = absurd (omega (arith, le))
  holds_past m (suc n) (v ∷ vs) le = holds_past m n vs (omega (arith, le))

  -- the next vertex is held
  pub held_here : (n : ℕ) (vs : List Vertex) (b whole : Bool) → n < length vs → b ≡ (has set n && option_map_or test (slice_get vs n) false) → b ≡ true → holds set test n (drop n vs) ≡ whole → true ≡ whole
  held_here n vs b whole lt is found inv =
      sym (holds_next n vs lt ∙ ap (λ t. t || holds set test (n + 1) (drop (n + 1) vs)) (sym is ∙ found)) ∙ inv

  -- it isn't, and the others are looked at
  pub held_later : (n : ℕ) (vs : List Vertex) (b whole : Bool) → n < length vs → b ≡ (has set n && option_map_or test (slice_get vs n) false) → b ≡ false → holds set test n (drop n vs) ≡ whole → holds set test (n + 1) (drop (n + 1) vs) ≡ whole
  held_later n vs b whole lt is other inv =
      sym (holds_next n vs lt ∙ ap (λ t. t || holds set test (n + 1) (drop (n + 1) vs)) (sym is ∙ other)) ∙ inv

  -- one more vertex is held, or isn't
  more_from : (m n : ℕ) (vs : List Vertex) → n < length vs → holds set test m (take (suc n) vs) ≡ (holds set test m (take n vs) || (has set (m + n) && option_map_or test (slice_get vs n) false))
  more_from m n [] lt = absurd (omega (arith, lt))
  more_from m zero (v ∷ vs) lt = let e : m ≡ m + 0 = omega arith in or_none (has set m && test v) ∙ ap (λ k. has set k && test v) e
  more_from m (suc n) (v ∷ vs) lt =
      let e : suc m + n ≡ m + suc n = omega arith in
      ap (λ t. (has set m && test v) || t) (more_from (suc m) n vs (omega (arith, lt)) ∙ ap (λ k. holds set test (suc m) (take n vs) || (has set k && option_map_or test (slice_get vs n) false)) e)
      ∙ sym (or_assoc (has set m && test v) (holds set test (suc m) (take n vs)) (has set (m + suc n) && option_map_or test (slice_get vs n) false))

  pub holds_more : (n : ℕ) (vs : List Vertex) → n < length vs → holds set test 0 (take (n + 1) vs) ≡ (holds set test 0 (take n vs) || (has set n && option_map_or test (slice_get vs n) false))
  holds_more n vs lt =
      let e : 0 + n ≡ n = omega arith in
      rw (add-one) (more_from 0 n vs lt ∙ ap (λ k. holds set test 0 (take n vs) || (has set k && option_map_or test (slice_get vs n) false)) e)

  -- what the next vertex holds was added to what was found
  pub held_turn : (n : ℕ) (vs : List Vertex) (old new whole : Bool) → n < length vs → new ≡ (old || (has set n && option_map_or test (slice_get vs n) false))
      → (old || holds set test n (drop n vs)) ≡ whole → (new || holds set test (n + 1) (drop (n + 1) vs)) ≡ whole
  held_turn n vs old new whole lt adds inv =
      ap (λ t. t || holds set test (n + 1) (drop (n + 1) vs)) adds
      ∙ or_assoc old (has set n && option_map_or test (slice_get vs n) false) (holds set test (n + 1) (drop (n + 1) vs))
      ∙ ap (λ t. old || t) (sym (holds_next n vs lt)) ∙ inv
