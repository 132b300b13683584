-- Rows of bits in words, bit by bit: what a list of words holds, and what a write makes of it.
use Rattle.std.proofs.Common.{◌≡◌, ◌≢◌, ℕ, ◌+◌, ◌-◌, ◌*◌, ◌/◌, ◌%◌, ◌^◌, ◌<◌, ◌≤◌, Bool, true, false, eqb, List, [], length, get_or, take, drop, set, replicate, refl, sym, ap, ◌∙◌, arith, inl, inr, subst, ◌⊎◌, slice_range}
use Rattle.std.proofs.lemmas.List.{with_items_is, get_or-take, get_or-drop, get_or-set_same, get_or-set_other, length-set, get_or_past, length-take, length-take-le, length-drop, get_or-replicate, length-replicate}
use Rattle.std.proofs.lemmas.List.FromFn.{get_or-map-range_with_len, length-map-range_with_len}
use Rattle.std.proofs.lemmas.Nat.{same_from_place, mul-add-lt, row_fits}
use Rattle.std.proofs.lemmas.Nat.Bits.{bit_at_set_same, bit_at_set_other}
use Rattle.std.proofs.lemmas.Bool.{cases_eq, cases_lt, eq-eqb}
use Rattle.std.specs.Int.{bit_at}
use Rattle.std.specs.Int.Bits.{bit_or}
use Rattle.bit_rows.specs.Sets.{has}
use Rattle.bit_rows.specs.Tables.{Table, the_set, with_set, empty_table, IsSized}
use Rattle.bit_rows.specs.Words.{word_bit, set_of, sets_of, row_words, IsClean, IsClearedAt, AreLaidOut}
use Rattle.bit_rows.proofs.SetLemmas.{has-empty}
use Rattle.bit_rows.proofs.WordLemmas.{length-set_of, has-set_of, no_bit, word_bit_past}
use Rattle.bit_rows.proofs.TableLemmas.{same_table, sized_empty, sized_with_set, the_set-with_set, other-with_set}
use Rattle.std.specs.Global.{Vec}
use Rattle.std.specs.Vec.{with_items}
use mir.Syntax.{w64}

-- bit i of row r, at rows of w words
abbrev pub bit : List ℕ → ℕ → ℕ → ℕ → Bool
bit ws w r i = eqb (bit_at (get_or ws (r * w + i / 64) 0) (i % 64)) 1

-- ---- the words of a row
pub word_bit_row : (ws : List ℕ) (w r i : ℕ) → i / 64 < w → word_bit (row_words w ws r) i ≡ bit ws w r i
word_bit_row ws w r i h = ap (λ x. eqb (bit_at x (i % 64)) 1) (get_or-take w (drop (r * w) ws) (i / 64) 0 h ∙ get_or-drop (r * w) ws (i / 64) 0)

pub row_words_range : (ws : List ℕ) (w r : ℕ) → slice_range ws (r * w) (r * w + w) ≡ row_words w ws r
row_words_range ws w r = let k : r * w + w - r * w ≡ w = omega arith in ap (λ n. take n (drop (r * w) ws)) k

-- ---- the sets that words hold
length-sets_of : (n w c : ℕ) (ws : List ℕ) → length (sets_of n w c ws) ≡ c
length-sets_of n w c ws = length-map-range_with_len (λ k. set_of n (row_words w ws k)) 0 c

get-sets_of : (n w c : ℕ) (ws : List ℕ) (r : ℕ) → r < c → get_or (sets_of n w c ws) r [] ≡ set_of n (row_words w ws r)
get-sets_of n w c ws r h = get_or-map-range_with_len (λ k. set_of n (row_words w ws k)) 0 c r r [] h (omega arith)

-- the table that the words of c rows hold
abbrev pub table : ℕ → ℕ → ℕ → List ℕ → Table
table n w c ws = record { bits = n; sets = sets_of n w c ws }

pub table_sized : (n w c : ℕ) (ws : List ℕ) → IsSized c n (table n w c ws)
table_sized n w c ws = record {
  rows_are = length-sets_of n w c ws;
  bits_are = refl;
  full = λ r h. ap length (get-sets_of n w c ws r h) ∙ length-set_of n (row_words w ws r);
}

has-table : (n w c : ℕ) (ws : List ℕ) (r i : ℕ) → n ≤ w * 64 → r < c → i < n → has (the_set (table n w c ws) r) i ≡ bit ws w r i
has-table n w c ws r i fit h k = ap (λ s. has s i) (get-sets_of n w c ws r h) ∙ has-set_of n (row_words w ws r) i k ∙ word_bit_row ws w r i (omega arith)

table_from_bits : (n w c : ℕ) (ws : List ℕ) (t : Table) → n ≤ w * 64 → IsSized c n t → ((r i : ℕ) → r < c → i < n → bit ws w r i ≡ has (the_set t r) i) → table n w c ws ≡ t
table_from_bits n w c ws t fit size each = same_table c n (table n w c ws) t (table_sized n w c ws) size (λ r i h k. has-table n w c ws r i fit h k ∙ each r i h k)

-- ---- words that hold a table, which the answers of the methods cite
pub record AreWordsOf (n w c : ℕ) (ws : List ℕ) (t : Table) : Type 0 where
  pub laid : AreLaidOut n w c ws
  pub view_is : table n w c ws ≡ t

-- from what a method knows of the fields
pub held_by : {n w c : ℕ} {ws : List ℕ} {t : Table} → AreLaidOut n w c ws → table n w c ws ≡ t → AreWordsOf n w c ws t
held_by laid view_is = record { laid = laid; view_is = view_is }

-- the same of a `Vec` into which as many words were written as it has
pub held_in : {n w c : ℕ} {t : Table} (v : Vec ℕ) (ws : List ℕ) → length ws ≡ length v.items → AreWordsOf n w c ws t → AreWordsOf n w c (with_items v ws).items t
held_in {n} {w} {c} {t} v ws l held = subst (λ items. AreWordsOf n w c items t) (sym (with_items_is v ws (omega (arith, v.ok.0)))) held

pub size_of : {n w c : ℕ} {ws : List ℕ} {t : Table} → AreWordsOf n w c ws t → IsSized c n t
size_of {n} {w} {c} {ws} held = subst (IsSized c n) held.view_is (table_sized n w c ws)

-- other words of the same rows hold a table of the same size
pub size_kept : {n w c : ℕ} {ws : List ℕ} {t : Table} → AreWordsOf n w c ws t → (vs : List ℕ) → IsSized (length t.sets) t.bits (table n w c vs)
size_kept {n} {w} {c} {ws} {t} held vs =
    let size = size_of held in
    let rows : IsSized (length t.sets) n (table n w c vs) = subst (λ rows. IsSized rows n (table n w c vs)) (sym size.rows_are) (table_sized n w c vs) in
    subst (λ bits. IsSized (length t.sets) bits (table n w c vs)) (sym size.bits_are) rows

-- the table itself has its size
pub size_known : {n w c : ℕ} {ws : List ℕ} {t : Table} → AreWordsOf n w c ws t → IsSized (length t.sets) t.bits t
size_known {ws = ws} {t = t} held = subst (IsSized (length t.sets) t.bits) held.view_is (size_kept held ws)

fits : {n w c : ℕ} {ws : List ℕ} → AreLaidOut n w c ws → n ≤ w * 64
fits laid = omega (arith, laid.width_is)

pub place_in : {n w c : ℕ} {ws : List ℕ} {t : Table} → AreWordsOf n w c ws t → (r i : ℕ) → r < length t.sets → i < t.bits → r * w + i / 64 < length ws
place_in {n} {w} {c} held r i h k =
    let size = size_of held in
    let within : i / 64 < w = omega (arith, held.laid.width_is, size.bits_are) in
    omega (arith, held.laid.length_is, mul-add-lt r w (i / 64) c (omega (arith, size.rows_are)) within)

pub row_in : {n w c : ℕ} {ws : List ℕ} {t : Table} → AreWordsOf n w c ws t → (r : ℕ) → r < length t.sets → r * w + w ≤ length ws
row_in {n} {w} {c} held r h =
    let size = size_of held in
    omega (arith, held.laid.length_is, row_fits r w c w (omega (arith, size.rows_are)) (omega arith))

pub has_is : {n w c : ℕ} {ws : List ℕ} {t : Table} → AreWordsOf n w c ws t → (r i : ℕ) → r < length t.sets → i < t.bits → bit ws w r i ≡ has (the_set t r) i
has_is {n} {w} {c} {ws} held r i h k =
    let size = size_of held in
    sym (has-table n w c ws r i (fits held.laid) (omega (arith, size.rows_are)) (omega (arith, size.bits_are))) ∙ ap (λ x. has (the_set x r) i) held.view_is

-- a row's bits at or past the bound are clear
pub bit_clean : {n w c : ℕ} {ws : List ℕ} → AreLaidOut n w c ws → (r i : ℕ) → r < c → n ≤ i → i / 64 < w → bit ws w r i ≡ false
bit_clean {w = w} {ws = ws} laid r i h past within = sym (word_bit_row ws w r i within) ∙ laid.clean r h i past

clean_from_bits : (n w : ℕ) (ws : List ℕ) (r : ℕ) → ((i : ℕ) → n ≤ i → i / 64 < w → bit ws w r i ≡ false) → IsClean n (row_words w ws r)
clean_from_bits n w ws r each i past =
    elim (cases_lt (i / 64) w) [
      | inl low ↦ word_bit_row ws w r i low ∙ each i past low
      | inr high ↦ word_bit_past (row_words w ws r) i (omega (arith, length-take w (drop (r * w) ws)))
    ]

-- ---- the words after a write: row r holds the set s, and no other row changed
pub written : {n w c : ℕ} {ws : List ℕ} {t : Table} → AreWordsOf n w c ws t → (vs : List ℕ) (r : ℕ) (s : List Bool) → length vs ≡ length ws → r < length t.sets → length s ≡ n → ((i : ℕ) → i < n → bit vs w r i ≡ has s i) → ((i : ℕ) → n ≤ i → i / 64 < w → bit vs w r i ≡ false) → ((k i : ℕ) → k ≢ r → i / 64 < w → bit vs w k i ≡ bit ws w k i) → AreWordsOf n w c vs (with_set t r s)
written {n} {w} {c} {ws} {t} held vs r s long h l here clean others =
    let size = size_of held in
    let fit = fits held.laid in
    let within : (i : ℕ) → i < n → i / 64 < w = λ i g. omega (arith, held.laid.width_is) in
    record {
      laid = record {
        width_is = held.laid.width_is;
        length_is = long ∙ held.laid.length_is;
        small = held.laid.small;
        clean = λ k g. clean_from_bits n w vs k (λ i past inside. elim (cases_eq k r) [
          | inl same ↦ ap (λ m. bit vs w m i) same ∙ clean i past inside
          | inr other ↦ others k i other inside ∙ bit_clean held.laid k i g past inside
        ]);
      };
      view_is = table_from_bits n w c vs (with_set t r s) fit (sized_with_set c n t r s size l) (λ k i g j. elim (cases_eq k r) [
        | inl same ↦ ap (λ m. bit vs w m i) same ∙ here i j ∙ ap (λ v. has v i) (sym (the_set-with_set t r s h)) ∙ ap (λ m. has (the_set (with_set t r s) m) i) (sym same)
        | inr other ↦ others k i other (within i j) ∙ has_is held k i (omega (arith, size.rows_are)) (omega (arith, size.bits_are)) ∙ ap (λ v. has v i) (sym (other-with_set t r k s other))
      ]);
    }

-- ---- `new`: words that are 0 hold empty sets
zero-words : (m k : ℕ) → get_or {A = ℕ} (replicate m 0) k 0 ≡ 0
zero-words m k = elim (cases_lt k m) [
  | inl h ↦ get_or-replicate m k 0 0 h
  | inr h ↦ get_or_past {X = ℕ} (replicate m 0) k 0 (let l : length (replicate {A = ℕ} m 0) ≡ m = length-replicate m 0 in omega arith)
]

pub empty_words : (n w c : ℕ) (ws : List ℕ) → w ≡ (n + 63) / 64 → n < 2 ^ 32 → c < 2 ^ 32 → ws ≡ replicate (c * w) 0 → AreWordsOf n w c ws (empty_table c n)
empty_words n w c ws h a b e =
    let none : (r i : ℕ) → bit ws w r i ≡ false = λ r i. no_bit (get_or ws (r * w + i / 64) 0) (i % 64) (ap (λ v. get_or v (r * w + i / 64) 0) e ∙ zero-words (c * w) (r * w + i / 64)) in
    record {
      laid = record {
        width_is = h;
        length_is = ap length e ∙ length-replicate (c * w) 0;
        small = (a, b);
        clean = λ r g. clean_from_bits n w ws r (λ i _ _. none r i);
      };
      view_is = table_from_bits n w c ws (empty_table c n) (omega arith) (sized_empty c n) (λ r i g j. none r i ∙ sym (ap (λ s. has s i) (get_or-replicate c r (replicate n false) [] g) ∙ has-empty n i));
    }

-- ---- `set`: one bit of one word
abbrev with_bit : List ℕ → ℕ → ℕ → ℕ → List ℕ
with_bit ws w r i = set ws (r * w + i / 64) (bit_or (get_or ws (r * w + i / 64) 0) (1 * 2 ^ (i % 64) % 2 ^ 64))

bit_here : (ws : List ℕ) (w r i : ℕ) → r * w + i / 64 < length ws → bit (with_bit ws w r i) w r i ≡ true
bit_here ws w r i h =
    let x = get_or ws (r * w + i / 64) 0 in
    ap (λ v. eqb (bit_at v (i % 64)) 1) (get_or-set_same ws (r * w + i / 64) _ 0 h) ∙ eq-eqb _ 1 (bit_at_set_same w64 x (i % 64) (omega arith))

bit_elsewhere : (ws : List ℕ) (w r i s k : ℕ) → r * w + i / 64 < length ws → i / 64 < w → k / 64 < w → (s ≡ r → k ≡ i → ⊥) → bit (with_bit ws w r i) w s k ≡ bit ws w s k
bit_elsewhere ws w r i s k h a b other =
    elim (cases_eq (s * w + k / 64) (r * w + i / 64)) [
      | inl same ↦
          let p = same_from_place s (k / 64) r (i / 64) w b a same in
          let ne : k % 64 ≢ i % 64 = λ e. other p.0 (omega arith) in
          ap (λ j. eqb (bit_at (get_or (with_bit ws w r i) j 0) (k % 64)) 1) same
          ∙ ap (λ v. eqb (bit_at v (k % 64)) 1) (get_or-set_same ws (r * w + i / 64) _ 0 h)
          ∙ ap (λ v. eqb v 1) (bit_at_set_other w64 (get_or ws (r * w + i / 64) 0) (i % 64) (omega arith) (k % 64) ne)
          ∙ ap (λ j. eqb (bit_at (get_or ws j 0) (k % 64)) 1) (sym same)
      | inr ne ↦ ap (λ v. eqb (bit_at v (k % 64)) 1) (get_or-set_other ws (r * w + i / 64) (s * w + k / 64) _ 0 ne)
    ]

-- where x is the word that was read
pub bit_written : {n w c : ℕ} {ws : List ℕ} {t : Table} → AreWordsOf n w c ws t → (r i x : ℕ) → r < length t.sets → i < t.bits → x ≡ get_or ws (r * w + i / 64) 0 → AreWordsOf n w c (set ws (r * w + i / 64) (bit_or x (1 * 2 ^ (i % 64) % 2 ^ 64))) (with_set t r (set (the_set t r) i true))
bit_written {n} {w} {c} {ws} {t} held r i x h k read =
    let size = size_of held in
    let place = place_in held r i h k in
    let below : i / 64 < w = omega (arith, held.laid.width_is, size.bits_are) in
    let old = the_set t r in
    let long : length old ≡ n = size.full r (omega (arith, size.rows_are)) in
    subst (λ y. AreWordsOf n w c (set ws (r * w + i / 64) (bit_or y (1 * 2 ^ (i % 64) % 2 ^ 64))) (with_set t r (set old i true))) (sym read)
    (written held (with_bit ws w r i) r (set old i true) (length-set ws (r * w + i / 64) _) h (length-set old i true ∙ long)
    (λ j g. let in_row : j / 64 < w = omega (arith, held.laid.width_is) in elim (cases_eq j i) [
      | inl same ↦ ap (λ m. bit (with_bit ws w r i) w r m) same ∙ bit_here ws w r i place ∙ sym (ap (λ m. has (set old i true) m) same ∙ get_or-set_same old i true false (omega (arith, size.bits_are)))
      | inr other ↦ bit_elsewhere ws w r i r j place below in_row (λ _ same. other same) ∙ has_is held r j h (omega (arith, size.bits_are)) ∙ sym (get_or-set_other old i j true false other)
    ])
    (λ j past inside. bit_elsewhere ws w r i r j place below inside (λ _ same. omega (arith, size.bits_are)) ∙ bit_clean held.laid r j (omega (arith, size.rows_are)) past inside)
    (λ s j other inside. bit_elsewhere ws w r i s j place below inside (λ same _. other same)))

-- ---- places of other rows
pub rows_apart : (w r s : ℕ) → r ≢ s → (r * w + w ≤ s * w) ⊎ (s * w + w ≤ r * w)
rows_apart w r s ne = elim (cases_lt r s) [ inl h ↦ inl (row_fits r w s w h (omega arith)) | inr h ↦ inr (row_fits s w r w (omega arith) (omega arith)) ]

-- a place of another row lies before or behind the words of row r
pub place_apart : (w r k j : ℕ) → k ≢ r → j < w → (k * w + j < r * w) ⊎ (r * w + w ≤ k * w + j)
place_apart w r k j ne h = elim (cases_lt k r) [
  | inl low ↦ inl (omega (arith, row_fits k w r w low (omega arith)))
  | inr high ↦ inr (omega (arith, row_fits r w k w (omega arith) (omega arith)))
]

-- ---- `clear`: one row of words that are 0
pub row_cleared : {n w c : ℕ} {ws : List ℕ} {t : Table} → AreWordsOf n w c ws t → (vs : List ℕ) (r : ℕ) → r < length t.sets → IsClearedAt (r * w) w ws vs → AreWordsOf n w c vs (with_set t r (replicate t.bits false))
row_cleared {n} {w} {c} {ws} {t} held vs r h cleared =
    let size = size_of held in
    let none : (i : ℕ) → i / 64 < w → bit vs w r i ≡ false = λ i inside. no_bit (get_or vs (r * w + i / 64) 0) (i % 64) (cleared.inside (r * w + i / 64) (omega arith) (omega arith)) in
    written held vs r (replicate t.bits false) cleared.long h (length-replicate t.bits false ∙ size.bits_are)
    (λ i g. none i (omega (arith, held.laid.width_is)) ∙ sym (has-empty t.bits i))
    (λ i past inside. none i inside)
    (λ k i other inside. ap (λ x. eqb (bit_at x (i % 64)) 1) (elim (place_apart w r k (i / 64) other inside) [
      | inl low ↦ cleared.before (k * w + i / 64) low
      | inr high ↦ cleared.after (k * w + i / 64) high
    ]))

-- ---- `words`: what a row's words are
pub record AreRowWords (n w c : ℕ) (ws : List ℕ) (t : Table) (r : ℕ) : Type 0 where
  pub width_is : length (row_words w ws r) ≡ w
  pub long : length (row_words w ws r) ≡ (t.bits + 63) / 64
  pub holds : set_of t.bits (row_words w ws r) ≡ the_set t r
  pub clean : IsClean t.bits (row_words w ws r)
  pub full : length (the_set t r) ≡ n
  pub each : (i : ℕ) → i < n → has (the_set t r) i ≡ word_bit (row_words w ws r) i

pub row_words_are : {n w c : ℕ} {ws : List ℕ} {t : Table} → AreWordsOf n w c ws t → (r : ℕ) → r < length t.sets → AreRowWords n w c ws t r
row_words_are {n} {w} {c} {ws} {t} held r h =
    let size = size_of held in
    let fit = row_in held r h in
    let in_range : r < c = omega (arith, size.rows_are) in
    let width : length (row_words w ws r) ≡ w = length-take-le w (drop (r * w) ws) (omega (arith, length-drop (r * w) ws)) in
    record {
      width_is = width;
      long = width ∙ held.laid.width_is ∙ ap (λ x. (x + 63) / 64) (sym size.bits_are);
      holds = ap (λ x. set_of x (row_words w ws r)) size.bits_are ∙ sym (get-sets_of n w c ws r in_range) ∙ ap (λ x. the_set x r) held.view_is;
      clean = λ i past. held.laid.clean r in_range i (omega (arith, size.bits_are));
      full = size.full r in_range;
      each = λ i g. sym (has_is held r i h (omega (arith, size.bits_are))) ∙ sym (word_bit_row ws w r i (omega (arith, held.laid.width_is)));
    }
