-- A row joined with words, bit by bit, and when that changes a word.
use Rattle.std.proofs.Common.{◌≡◌, ◌≢◌, ◌↔◌, ℕ, ◌+◌, ◌-◌, ◌*◌, ◌/◌, ◌%◌, ◌^◌, ◌<◌, ◌≤◌, Bool, true, false, ◌||◌, eqb, List, ◌++◌, length, get_or, take, drop, refl, sym, ap, ◌∙◌, arith, inl, inr, subst, lit<}
use Rattle.std.proofs.lemmas.List.{with_items_is, ext_get_or, get_or-take, get_or-drop, get_or_past, length-take, length-take-le, length-drop, length-append, get_or-append_right, get_or_append_left}
use Rattle.std.proofs.lemmas.Nat.{or_lt}
use Rattle.std.proofs.lemmas.Nat.Bits.{bit_at-lt, same_from_bits, bit_at_above}
use Rattle.std.proofs.lemmas.Bool.{cases_lt, or_from}
use Rattle.std.proofs.lemmas.Bool.Decides.{nat_tests}
use Rattle.std.proofs.lemmas.Simd.{length-zip2, get_or-zip2}
use Rattle.std.specs.Global.{Vec}
use Rattle.std.specs.Vec.{with_items}
use Rattle.std.specs.Int.{bit_at}
use Rattle.std.specs.Int.Bits.{bit_or}
use Rattle.bit_rows.specs.Sets.{has, union}
use Rattle.bit_rows.specs.Tables.{Table, the_set, with_set, IsGrown}
use Rattle.bit_rows.specs.Words.{word_bit, row_words, union_words, IsClean, IsJoinedAt, AreWords, AreLaidOut}
use Rattle.bit_rows.proofs.SetLemmas.{has-union, length-union}
use Rattle.bit_rows.proofs.TableLemmas.{join_grown}
use Rattle.bit_rows.proofs.WordLemmas.{word_bit_past, or_bit}
use Rattle.bit_rows.proofs.LayoutLemmas.{bit, table, AreWordsOf, held_by, size_of, has_is, bit_clean, place_apart, written}

-- ---- `join_at`: the part from `at` on in which the union was put
pub part_joined : (at m : ℕ) (ws new from : List ℕ) → m ≡ length from → at + m ≤ length ws → new ≡ union_words (take m (drop at ws)) from → IsJoinedAt at from ws (take at ws ++ (new ++ drop m (drop at ws)))
part_joined at m ws new from e fit is =
    let front : length (take at ws) ≡ at = length-take-le at ws (omega arith) in
    let mid : length (take m (drop at ws)) ≡ m = length-take-le m (drop at ws) (omega (arith, length-drop at ws)) in
    let l : length new ≡ m = ap length is ∙ length-zip2 bit_or (take m (drop at ws)) from (mid ∙ e) ∙ mid in
    let rest = drop m (drop at ws) in
    record {
      long = omega (arith, length-append (take at ws) (new ++ rest), length-append new rest, length-drop m (drop at ws), length-drop at ws);
      inside = λ k low high.
          let j = k - at in
          let s : at + j ≡ k = omega arith in
          get_or-append_right (take at ws) (new ++ rest) at k 0 front low
          ∙ get_or_append_left new rest 0 j (omega arith)
          ∙ ap (λ v. get_or v j 0) is
          ∙ get_or-zip2 bit_or (take m (drop at ws)) from j 0 0 0 (omega arith) (omega arith)
          ∙ ap (λ x. bit_or x (get_or from j 0)) (get_or-take m (drop at ws) j 0 (omega arith) ∙ get_or-drop at ws j 0 ∙ ap (λ q. get_or ws q 0) s);
      before = λ k low. get_or_append_left (take at ws) (new ++ rest) 0 k (omega arith) ∙ get_or-take at ws k 0 low;
      after = λ k high.
          let j = k - at in
          let i = j - m in
          let s : at + (m + i) ≡ k = omega arith in
          get_or-append_right (take at ws) (new ++ rest) at k 0 front (omega arith)
          ∙ get_or-append_right new rest m j 0 l (omega arith)
          ∙ get_or-drop m (drop at ws) i 0
          ∙ get_or-drop at ws (m + i) 0
          ∙ ap (λ q. get_or ws q 0) s;
    }

-- ---- words joined into row r
or_false : (b : Bool) → b ≡ (b || false)
or_false true = refl
or_false false = refl

bit_joined : (ws vs from : List ℕ) (w r i : ℕ) → IsJoinedAt (r * w) from ws vs → bit vs w r i ≡ (bit ws w r i || word_bit from i)
bit_joined ws vs from w r i j =
    let at = r * w + i / 64 in
    elim (cases_lt (i / 64) (length from)) [
      | inl low ↦
          let e : at - r * w ≡ i / 64 = omega arith in
          ap (λ x. eqb (bit_at x (i % 64)) 1) (j.inside at (omega arith) (omega arith) ∙ ap (λ q. bit_or (get_or ws at 0) (get_or from q 0)) e)
          ∙ or_bit (get_or ws at 0) (get_or from (i / 64) 0) (i % 64)
      | inr high ↦
          ap (λ x. eqb (bit_at x (i % 64)) 1) (j.after at (omega arith)) ∙ or_false (bit ws w r i) ∙ ap (λ b. bit ws w r i || b) (sym (word_bit_past from i high))
    ]

bit_apart : (ws vs from : List ℕ) (w r k i : ℕ) → IsJoinedAt (r * w) from ws vs → length from ≤ w → k ≢ r → i / 64 < w → bit vs w k i ≡ bit ws w k i
bit_apart ws vs from w r k i j short other inside = ap (λ x. eqb (bit_at x (i % 64)) 1) (elim (place_apart w r k (i / 64) other inside) [
  | inl low ↦ j.before (k * w + i / 64) low
  | inr high ↦ j.after (k * w + i / 64) (omega arith)
])

-- s is the set that the joined words hold
pub row_joined : {n w c : ℕ} {ws : List ℕ} {t : Table} → AreWordsOf n w c ws t → (vs from : List ℕ) (r : ℕ) (s : List Bool) → r < length t.sets → IsJoinedAt (r * w) from ws vs → length from ≤ w → IsClean n from → length s ≡ n → ((i : ℕ) → i < n → has s i ≡ word_bit from i) → AreWordsOf n w c vs (with_set t r (union (the_set t r) s))
row_joined {n} {w} {c} {ws} {t} held vs from r s h j short clean l says =
    let size = size_of held in
    let old = the_set t r in
    let long : length old ≡ n = size.full r (omega (arith, size.rows_are)) in
    written held vs r (union old s) j.long h (length-union old s ∙ long)
    (λ i g. bit_joined ws vs from w r i j
    ∙ ap (λ b. b || word_bit from i) (has_is held r i h (omega (arith, size.bits_are)))
    ∙ ap (λ b. has old i || b) (sym (says i g))
    ∙ sym (has-union old s i (long ∙ sym l)))
    (λ i past inside. bit_joined ws vs from w r i j ∙ or_from _ _ (bit_clean held.laid r i (omega (arith, size.rows_are)) past inside) (clean i past))
    (λ k i other inside. bit_apart ws vs from w r k i j short other inside)

-- ---- whether a word changed is whether the table did
small_same : (x y : ℕ) → x < 2 → y < 2 → eqb x 1 ≡ eqb y 1 → x ≡ y
small_same x y h k e = grind (arith, nat_tests)

same_bit : (x y i : ℕ) → eqb (bit_at x i) 1 ≡ eqb (bit_at y i) 1 → bit_at x i ≡ bit_at y i
same_bit x y i h = small_same (bit_at x i) (bit_at y i) (bit_at-lt x i) (bit_at-lt y i) h

-- words of one table have the same bits, also past the bound
row_bits : {n w c : ℕ} {ws vs : List ℕ} {t : Table} → AreWordsOf n w c ws t → AreWordsOf n w c vs t → (r i : ℕ) → r < length t.sets → i / 64 < w → bit vs w r i ≡ bit ws w r i
row_bits {n} {w} held after r i h inside =
    let size = size_of held in
    elim (cases_lt i n) [
      | inl low ↦ has_is after r i h (omega (arith, size.bits_are)) ∙ sym (has_is held r i h (omega (arith, size.bits_are)))
      | inr past ↦ bit_clean after.laid r i (omega (arith, size.rows_are)) past inside ∙ sym (bit_clean held.laid r i (omega (arith, size.rows_are)) past inside)
    ]

-- where the table is as before, each word is
words_same : {n w c : ℕ} {ws vs : List ℕ} {t : Table} → AreWordsOf n w c ws t → AreWordsOf n w c vs t → (from : List ℕ) (r : ℕ) → r < length t.sets → IsJoinedAt (r * w) from ws vs → length from ≤ w → AreWords ws → AreWords from → vs ≡ ws
words_same {n} {w} {c} {ws} {vs} held after from r h j short fw ff = ext_get_or 0 vs ws j.long (λ k g.
    elim (cases_lt k (r * w)) [
      | inl low ↦ j.before k low
      | inr high ↦ elim (cases_lt k (r * w + length from)) [
        | inr past ↦ j.after k past
        | inl in_row ↦
            let q = k - r * w in
            let at : r * w + q ≡ k = omega arith in
            let fv : get_or vs k 0 < 2 ^ 64 = rw (j.inside k high in_row) (or_lt 64 _ _ (fw k) (ff q)) in
            same_from_bits (get_or vs k 0) (get_or ws k 0) (λ b. elim (cases_lt b 64) [
              | inr far ↦ bit_at_above (get_or vs k 0) 64 b fv far ∙ sym (bit_at_above (get_or ws k 0) 64 b (fw k) far)
              | inl near ↦
                  let i = q * 64 + b in
                  let quotient : i / 64 ≡ q = omega arith in
                  let remainder : i % 64 ≡ b = omega arith in
                  let bits : bit vs w r i ≡ bit ws w r i = row_bits held after r i h (omega arith) in
                  let here : eqb (bit_at (get_or vs k 0) b) 1 ≡ eqb (bit_at (get_or ws k 0) b) 1 = rw at at (rw (quotient, remainder) at bits) in
                  same_bit (get_or vs k 0) (get_or ws k 0) b here
            ])
      ]
    ])

-- ---- the words of a row are words
pub row_are_words : (ws : List ℕ) (w r : ℕ) → AreWords ws → AreWords (row_words w ws r)
row_are_words ws w r small k =
    elim (cases_lt k w) [
      | inl low ↦ rw (get_or-take w (drop (r * w) ws) k 0 low ∙ get_or-drop (r * w) ws k 0) (small (r * w + k))
      | inr high ↦
          let short : length (row_words w ws r) ≤ k = omega (arith, length-take w (drop (r * w) ws)) in
          rw (get_or_past (row_words w ws r) k 0 short) (lit< tt)
    ]

-- ---- `join_into` and `join_words`: the words vs, where set s was joined into row r of the table t
pub record IsRowJoined (n w c : ℕ) (t : Table) (r : ℕ) (s : List Bool) (changed : Bool) (vs : List ℕ) : Type 0 where
  pub laid : AreLaidOut n w c vs
  pub joined : table n w c vs ≡ with_set t r (union (the_set t r) s)
  pub told : (changed ≡ false) ↔ (table n w c vs ≡ t)
  pub grown : IsGrown t (table n w c vs) changed

-- from the clauses of a join of words, where `read` is the list that was joined into
pub row_join : {n w c : ℕ} {ws : List ℕ} {t : Table} → AreWordsOf n w c ws t → (read vs from : List ℕ) (r : ℕ) (s : List Bool) (changed : Bool) → r < length t.sets → read ≡ ws → IsJoinedAt (r * w) from read vs → length from ≤ w → IsClean n from → length s ≡ n → ((i : ℕ) → i < n → has s i ≡ word_bit from i) → AreWords read → AreWords from → (changed ≡ false) ↔ (vs ≡ read) → IsRowJoined n w c t r s changed vs
row_join {n} {w} {c} {ws} {t} held read vs from r s changed h is j short clean l says fr ff told =
    let size = size_of held in
    let joined_at : IsJoinedAt (r * w) from ws vs = subst (λ v. IsJoinedAt (r * w) from v vs) is j in
    let fw : AreWords ws = subst AreWords is fr in
    let after = row_joined held vs from r s h joined_at short clean l says in
    let table_told : (changed ≡ false) ↔ (table n w c vs ≡ t) = (
      λ none. ap (table n w c) (told.0 none ∙ is) ∙ held.view_is,
      λ same. told.1 (words_same held (held_by after.laid same) from r h joined_at short fw ff ∙ sym is),
    ) in
    record {
      laid = after.laid;
      joined = after.view_is;
      told = table_told;
      grown = join_grown c n t (table n w c vs) r s size (omega (arith, size.rows_are)) l after.view_is changed table_told;
    }

-- the same of a `Vec` into which the words were written
pub join_in : {n w c : ℕ} {t : Table} {r : ℕ} {s : List Bool} {changed : Bool} (v : Vec ℕ) (vs : List ℕ) → length vs ≡ length v.items → IsRowJoined n w c t r s changed vs → IsRowJoined n w c t r s changed (with_items v vs).items
join_in {n} {w} {c} {t} {r} {s} {changed} v vs l joined = subst (IsRowJoined n w c t r s changed) (sym (with_items_is v vs (omega (arith, v.ok.0)))) joined
