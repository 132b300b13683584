-- What one vector of the union stores, whether that changed a word, and what the steps make in all.
use Rattle.std.proofs.Common.{◌≡◌, ◌↔◌, ℕ, zero, suc, ◌+◌, ◌*◌, ◌-◌, ◌^◌, ◌%◌, ◌<◌, ◌≤◌, Bool, true, false, not, cond, eqb, List, [], ◌∷◌, ◌++◌, map, length, get_or, take, drop, refl, sym, ap, ◌∙◌, arith, inl, inr}
use Rattle.std.specs.Simd.Lanes.{zip2, chunk, put_chunk, mask_l, top}
use Rattle.std.specs.Int.Bits.{bit_or}
use Rattle.std.proofs.lemmas.List.{ext_get_or}
use Rattle.std.proofs.lemmas.Simd.{tops_compared, mask_l-mod, length-zip2, length-put_chunk, get_or-put_chunk_below, get_or-put_chunk_at, get_or-put_chunk_above, get_or-zip2, get_or-chunk, length-chunk}
use Rattle.std.proofs.lemmas.Bool.{cases_lt}
use Rattle.std.proofs.lemmas.Bool.Decides.{nat_tests}
use Rattle.bit_rows.specs.Words.{union_words}
use mir.Syntax.{w64}

-- ---- two vectors compared
abbrev pub differ : ℕ → ℕ → Bool
differ a b = not (eqb a b)

differ_same : (a : ℕ) → differ a a ≡ false
differ_same a = grind (arith, nat_tests)

same_from_differ : (a b : ℕ) → differ a b ≡ false → a ≡ b
same_from_differ a b h = grind (arith, nat_tests)

zero_parts : (b : Bool) (m : ℕ) → cond b 1 0 + 2 * m ≡ 0 → (b ≡ false) × (m ≡ 0)
zero_parts true m h = absurd (omega arith)
zero_parts false m h = (refl, omega arith)

-- no lane differs, so the vectors are the same
same_from_mask : (xs ys : List ℕ) → length xs ≡ length ys → mask_l (zip2 differ xs ys) ≡ 0 → xs ≡ ys
same_from_mask [] [] l h = refl
same_from_mask [] (y ∷ ys) l h = cc
same_from_mask (x ∷ xs) [] l h = cc
same_from_mask (x ∷ xs) (y ∷ ys) l h =
    let lens : length xs ≡ length ys = omega arith in
    let split = zero_parts (differ x y) (mask_l (zip2 differ xs ys)) h in
    let rest = same_from_mask xs ys lens split.1 in
    let first = same_from_differ x y split.0 in
    cc

mask_of_same : (xs : List ℕ) → mask_l (zip2 differ xs xs) ≡ 0
mask_of_same [] = refl
mask_of_same (x ∷ xs) = grind (arith, differ_same x, mask_of_same xs)

zero_from_test : (n : ℕ) → not (eqb n 0) ≡ false → n ≡ 0
zero_from_test n h = grind (arith, nat_tests)

test_from_zero : (n : ℕ) → n ≡ 0 → not (eqb n 0) ≡ false
test_from_zero n h = grind (arith, nat_tests)

-- the bit mask of the comparison is 0 where the vectors are the same, and only there
abbrev is_fresh : List ℕ → List ℕ → Bool
is_fresh xs ys = not (eqb (mask_l (map (top 63) (zip2 (λ a b. cond (differ a b) (2 ^ 64 - 1) 0) xs ys)) % 2 ^ 64) 0)

mask_decides : (xs ys : List ℕ) → length xs ≡ 8 → length ys ≡ 8 → (is_fresh xs ys ≡ false) ↔ (xs ≡ ys)
mask_decides xs ys l m =
    let n = mask_l (zip2 differ xs ys) in
    let long : length (zip2 differ xs ys) ≤ 64 = omega (arith, length-zip2 differ xs ys (l ∙ sym m)) in
    let e : mask_l (map (top 63) (zip2 (λ a b. cond (differ a b) (2 ^ 64 - 1) 0) xs ys)) % 2 ^ 64 ≡ n = ap (λ bs. mask_l bs % 2 ^ 64) (tops_compared w64 differ xs ys) ∙ mask_l-mod (zip2 differ xs ys) 64 long in
    rw e (λ h. same_from_mask xs ys (l ∙ sym m) (zero_from_test n h), λ s. test_from_zero n (ap (λ v. mask_l (zip2 differ xs v)) (sym s) ∙ mask_of_same xs))

-- ---- one vector joined at a place
module _ (to from : List ℕ) (at : ℕ) (to_in : at + 8 ≤ length to) (from_in : at + 8 ≤ length from) where
  abbrev vector : List ℕ
  vector = zip2 bit_or (chunk at 8 to) (chunk at 8 from)

  abbrev stored : List ℕ
  stored = put_chunk at to vector

  length-vector : length vector ≡ 8
  length-vector = length-zip2 bit_or _ _ (length-chunk at 8 to to_in ∙ sym (length-chunk at 8 from from_in)) ∙ length-chunk at 8 to to_in

  stored_lane : (j : ℕ) → j < 8 → get_or stored (at + j) 0 ≡ get_or vector j 0
  stored_lane j h =
      let l = length-vector in
      get_or-put_chunk_at at to vector j 0 (omega arith) (omega arith)

  pub stored_below : (k : ℕ) → k < at → get_or stored k 0 ≡ get_or to k 0
  stored_below k h = get_or-put_chunk_below at to vector k 0 h

  pub stored_at : (k : ℕ) → at ≤ k → k < at + 8 → get_or stored k 0 ≡ bit_or (get_or to k 0) (get_or from k 0)
  stored_at k low high =
      let j = k - at in
      let e : at + j ≡ k = omega arith in
      let lane = stored_lane j (omega arith) in
      let parts = get_or-zip2 bit_or (chunk at 8 to) (chunk at 8 from) j 0 0 0 (omega (arith, length-chunk at 8 to to_in)) (omega (arith, length-chunk at 8 from from_in)) in
      let a = get_or-chunk at 8 to j 0 (omega arith) in
      let b = get_or-chunk at 8 from j 0 (omega arith) in
      rw e at (lane ∙ parts ∙ ap (λ x. bit_or x (get_or (chunk at 8 from) j 0)) a ∙ ap (bit_or (get_or to (at + j) 0)) b)

  pub stored_above : (k : ℕ) → at + 8 ≤ k → get_or stored k 0 ≡ get_or to k 0
  stored_above k high =
      let l = length-vector in
      get_or-put_chunk_above at to vector k 0 (omega arith)

  -- the vector is as before, so all words are
  unchanged : vector ≡ chunk at 8 to → stored ≡ to
  unchanged e = ext_get_or 0 _ _ (length-put_chunk at to vector) (λ k h.
      elim (cases_lt k at) [
        | inl low ↦ stored_below k low
        | inr rest ↦ elim (cases_lt k (at + 8)) [
          | inl inside ↦
              let j = k - at in
              let s : at + j ≡ k = omega arith in
              rw s at (stored_lane j (omega arith) ∙ ap (λ v. get_or v j 0) e ∙ get_or-chunk at 8 to j 0 (omega arith))
          | inr high ↦ stored_above k high
        ]
      ])

  same_vector : stored ≡ to → vector ≡ chunk at 8 to
  same_vector e =
      let l = length-vector in
      ext_get_or 0 _ _ (l ∙ sym (length-chunk at 8 to to_in)) (λ j h. sym (stored_lane j (omega arith)) ∙ ap (λ v. get_or v (at + j) 0) e ∙ sym (get_or-chunk at 8 to j 0 (omega arith)))

  pub stored_decides : (not (eqb (mask_l (map (top 63) (zip2 (λ a b. cond (differ a b) (2 ^ 64 - 1) 0) vector (chunk at 8 to))) % 2 ^ 64) 0) ≡ false) ↔ (stored ≡ to)
  stored_decides =
      let d = mask_decides vector (chunk at 8 to) length-vector (length-chunk at 8 to to_in) in
      (λ h. unchanged (d.0 h), λ e. d.1 (same_vector e))

-- ---- the union, word by word
pub union_from_words : (old from new : List ℕ) → length old ≡ length from → length new ≡ length old → ((k : ℕ) → k < length old → get_or new k 0 ≡ bit_or (get_or old k 0) (get_or from k 0)) → new ≡ union_words old from
union_from_words old from new l n each =
    let z = length-zip2 bit_or old from l in
    ext_get_or 0 _ _ (n ∙ sym z) (λ k h. each k (omega arith) ∙ sym (get_or-zip2 bit_or old from k 0 0 0 (omega arith) (omega arith)))

-- the union of two fronts and that of the two rests are the whole union
union_split : (n : ℕ) (xs ys : List ℕ) → length xs ≡ length ys → union_words (take n xs) (take n ys) ++ union_words (drop n xs) (drop n ys) ≡ union_words xs ys
union_split zero xs ys l = refl
union_split (suc n) [] [] l = refl
union_split (suc n) [] (y ∷ ys) l = cc
union_split (suc n) (x ∷ xs) [] l = cc
union_split (suc n) (x ∷ xs) (y ∷ ys) l = ap (λ v. bit_or x y ∷ v) (union_split n xs ys (omega arith))

-- the same of lists that were cut at n
pub union_from_parts : (n : ℕ) (xs ys xs_front xs_rest ys_front ys_rest front rest : List ℕ) → length xs ≡ length ys → xs_front ≡ take n xs → xs_rest ≡ drop n xs → ys_front ≡ take n ys → ys_rest ≡ drop n ys → front ≡ union_words xs_front ys_front → rest ≡ union_words xs_rest ys_rest → front ++ rest ≡ union_words xs ys
union_from_parts n xs ys xs_front xs_rest ys_front ys_rest front rest l a b c d e f = cc (union_split n xs ys l)
