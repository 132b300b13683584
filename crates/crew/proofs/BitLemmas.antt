-- Bits of words, and facts that words hold.
use Rattle.std.proofs.Common.{◌≡◌, ◌≢◌, ℕ, zero, suc, ◌+◌, ◌-◌, ◌*◌, ◌/◌, ◌%◌, ◌^◌, ◌<◌, ◌≤◌, ◌⊎◌, min, max, true, List, [], ◌∷◌, length, get_or, set, map, eqb, refl, sym, ap, ◌∙◌, subst, arith, inl, inr, ⊎_elim}
use Rattle.std.specs.Prelude.{bit_or, slice_index}
use Rattle.std.specs.Int.{bit_at, bit_not}
use mir.Syntax.{w64}
use Rattle.std.proofs.Math.Nat.{div-add-mod}
use Rattle.std.proofs.lemmas.List.{get_or-set_same, get_or-set_other}
use Rattle.std.proofs.lemmas.Nat.Bits.{bit_at_or, bit_at_and, bit_at_not, bit_at_above, bit_at-lt, bit_at-zero, same_from_bits}
use Rattle.std.proofs.lemmas.Bool.{cases_eq, cases_lt, eq-eqb, eqb-true}
use Rattle.crew.specs.SharedWords.{Holds, AreWithin, IsWithin, bit, new_bits, union}

-- ---- one bit of one word
pub bit_here : (l : List ℕ) (w x i : ℕ) → w < length l → bit (set l w x) w i ≡ bit_at x i
bit_here l w x i h = ap (λ q. bit_at q i) (get_or-set_same l w x 0 h)

pub bit_else : (l : List ℕ) (w x k i : ℕ) → k ≢ w → bit (set l w x) k i ≡ bit l k i
bit_else l w x k i h = ap (λ q. bit_at q i) (get_or-set_other l w k x 0 h)

pub bit_set_le : (l : List ℕ) (w x k i m : ℕ) → bit l k i ≤ m → (k ≡ w → bit_at x i ≤ m) → bit (set l w x) k i ≤ m
bit_set_le [] w x k i m a b = a
bit_set_le (y ∷ ys) zero x zero i m a b = b refl
bit_set_le (y ∷ ys) zero x (suc k) i m a b = a
bit_set_le (y ∷ ys) (suc w) x zero i m a b = a
bit_set_le (y ∷ ys) (suc w) x (suc k) i m a b = bit_set_le ys w x k i m a (λ e. b (ap suc e))

pub le_bit_set : (l : List ℕ) (w x k i m : ℕ) → m ≤ bit l k i → (k ≡ w → m ≤ bit_at x i) → m ≤ bit (set l w x) k i
le_bit_set [] w x k i m a b = a
le_bit_set (y ∷ ys) zero x zero i m a b = b refl
le_bit_set (y ∷ ys) zero x (suc k) i m a b = a
le_bit_set (y ∷ ys) (suc w) x zero i m a b = a
le_bit_set (y ∷ ys) (suc w) x (suc k) i m a b = le_bit_set ys w x k i m a (λ e. b (ap suc e))

pub set_get : (l : List ℕ) (i : ℕ) → set l i (get_or l i 0) ≡ l
set_get [] i = refl
set_get (x ∷ xs) zero = refl
set_get (x ∷ xs) (suc i) = ap (λ ys. x ∷ ys) (set_get xs i)

pub new_bit : (bits n i : ℕ) → bits < 2 ^ 64 → n < 2 ^ 64 → bit_at (new_bits bits n) i ≡ min (bit_at bits i) (1 - bit_at n i)
new_bit bits n i b h = ⊎_elim
    (λ (low : i < 64). bit_at_and bits (bit_not w64 n) i ∙ ap (λ q. min (bit_at bits i) q) (bit_at_not w64 n i h low))
    (λ (high : 64 ≤ i). let z = bit_at_above bits 64 i b high in let a = bit_at_and bits (bit_not w64 n) i in omega arith)
    (cases_lt i 64)

pub or_true : (a b i : ℕ) → bit_at (bit_or a b) i ≡ 1 → (bit_at a i ≡ 1) ⊎ (bit_at b i ≡ 1)
or_true a b i h = ⊎_elim (λ e. inl e) (λ ne. inr (let o = bit_at_or a b i in let p = bit_at-lt a i in let q = bit_at-lt b i in omega arith)) (cases_eq (bit_at a i) 1)

-- ---- all words
pub bit_union : (xs ys : List ℕ) (k i : ℕ) → length xs ≡ length ys → bit (union xs ys) k i ≡ max (bit xs k i) (bit ys k i)
bit_union [] [] k i l = let z = bit_at-zero i in omega arith
bit_union [] (y ∷ ys) k i l = absurd (omega arith)
bit_union (x ∷ xs) [] k i l = absurd (omega arith)
bit_union (x ∷ xs) (y ∷ ys) zero i l = bit_at_or x y i
bit_union (x ∷ xs) (y ∷ ys) (suc k) i l = bit_union xs ys k i (omega arith)

pub length_union : (xs ys : List ℕ) → length (union xs ys) ≡ length xs
length_union [] ys = refl
length_union (x ∷ xs) [] = refl
length_union (x ∷ xs) (y ∷ ys) = ap suc (length_union xs ys)

pub bit_cleared : (xs : List ℕ) (k i : ℕ) → bit (map (λ _. 0) xs) k i ≡ 0
bit_cleared [] k i = bit_at-zero i
bit_cleared (x ∷ xs) zero i = bit_at-zero i
bit_cleared (x ∷ xs) (suc k) i = bit_cleared xs k i

pub length_cleared : (xs : List ℕ) → length (map {B = ℕ} (λ _. 0) xs) ≡ length xs
length_cleared [] = refl
length_cleared (x ∷ xs) = ap suc (length_cleared xs)

pub same_words : (xs ys : List ℕ) → length xs ≡ length ys → ((k i : ℕ) → bit xs k i ≡ bit ys k i) → xs ≡ ys
same_words [] [] l h = refl
same_words [] (y ∷ ys) l h = absurd (omega arith)
same_words (x ∷ xs) [] l h = absurd (omega arith)
same_words (x ∷ xs) (y ∷ ys) l h =
    let a : x ≡ y = same_from_bits x y (λ i. h 0 i) in
    let b : xs ≡ ys = same_words xs ys (omega arith) (λ k i. h (suc k) i) in
    cc

-- ---- facts, and the bits that they are
pub holds_bit : (ws : List ℕ) (n : ℕ) → Holds ws n → bit ws (n / 64) (n % 64) ≡ 1
holds_bit ws n h = eqb-true (bit ws (n / 64) (n % 64)) 1 h

pub bit_holds : (ws : List ℕ) (n : ℕ) → bit ws (n / 64) (n % 64) ≡ 1 → Holds ws n
bit_holds ws n e = eq-eqb (bit ws (n / 64) (n % 64)) 1 e

-- bit i of word w is fact 64 * w + i
pub word_of : (w i : ℕ) → i < 64 → (64 * w + i) / 64 ≡ w
word_of w i h = omega arith

pub place_of : (w i : ℕ) → i < 64 → (64 * w + i) % 64 ≡ i
place_of w i h = omega arith

pub number_of : (n : ℕ) → 64 * (n / 64) + n % 64 ≡ n
number_of n = div-add-mod n 64

pub bit_is_fact : (ws : List ℕ) (w i : ℕ) → i < 64 → bit ws w i ≡ 1 → Holds ws (64 * w + i)
bit_is_fact ws w i h e = bit_holds ws (64 * w + i) (ap (λ k. bit ws k ((64 * w + i) % 64)) (word_of w i h) ∙ ap (λ k. bit ws w k) (place_of w i h) ∙ e)

-- a bit of a word below 2 ^ 64 has a place below 64
pub low_place : (x i : ℕ) → x < 2 ^ 64 → bit_at x i ≡ 1 → i < 64
low_place x i small e = ⊎_elim (λ low. low) (λ (high : 64 ≤ i). let z = bit_at_above x 64 i small high in absurd (omega arith)) (cases_lt i 64)

pub within_bits : (xs ys : List ℕ) → ((w i : ℕ) → bit xs w i ≤ bit ys w i) → AreWithin xs ys
within_bits xs ys le n h =
    let a = holds_bit xs n h in
    let b = le (n / 64) (n % 64) in
    let c = bit_at-lt (get_or ys (n / 64) 0) (n % 64) in
    bit_holds ys n (omega arith)

pub within_bit : (x y : ℕ) → ((i : ℕ) → bit_at x i ≤ bit_at y i) → IsWithin x y
within_bit x y le i h = let b = le i in let c = bit_at-lt y i in omega arith

pub bits_within : (x y i : ℕ) → IsWithin x y → bit_at x i ≤ bit_at y i
bits_within x y i h = ⊎_elim (λ e. let a = h i e in omega arith) (λ ne. let c = bit_at-lt x i in omega arith) (cases_eq (bit_at x i) 1)

-- a word that holds at least what it held
pub within_set : (xs : List ℕ) (w x : ℕ) → IsWithin (slice_index xs w) x → AreWithin xs (set xs w x)
within_set xs w x h = within_bits xs (set xs w x) (λ k i. le_bit_set xs w x k i (bit xs k i) (omega arith) (λ e. subst (λ j. bit xs j i ≤ bit_at x i) (sym e) (bits_within (slice_index xs w) x i h)))

pub within_or : (x bits : ℕ) → IsWithin x (bit_or x bits)
within_or x bits i h = let o = bit_at_or x bits i in let c = bit_at-lt bits i in omega arith

-- bits that are put into a word are held
pub put_holds : (xs : List ℕ) (w bits i : ℕ) → w < length xs → bits < 2 ^ 64 → bit_at bits i ≡ 1 → Holds (set xs w (bit_or (slice_index xs w) bits)) (64 * w + i)
put_holds xs w bits i inside small h = bit_is_fact _ w i (low_place bits i small h)
    (bit_here xs w (bit_or (slice_index xs w) bits) i inside ∙ (let o = bit_at_or (slice_index xs w) bits i in let c = bit_at-lt (slice_index xs w) i in omega arith))

pub within_union : (xs ys : List ℕ) → length xs ≡ length ys → AreWithin xs (union xs ys) × AreWithin ys (union xs ys)
within_union xs ys l = (
  within_bits xs (union xs ys) (λ k i. let u = bit_union xs ys k i l in omega arith),
  within_bits ys (union xs ys) (λ k i. let u = bit_union xs ys k i l in omega arith),
)

-- a bit that is put into a word is new to it, or was there
pub bit_put_le : (ws : List ℕ) (w x bits k i : ℕ) → x ≡ slice_index ws w → bit ws k i ≤ bit (set ws w (bit_or x bits)) k i
bit_put_le ws w x bits k i is = le_bit_set ws w (bit_or x bits) k i (bit ws k i) (omega arith)
    (λ e. subst (λ j. bit ws j i ≤ bit_at (bit_or x bits) i) (sym e)
    (let o = bit_at_or x bits i in let b : bit_at x i ≡ bit ws w i = ap (λ y. bit_at y i) is in omega arith))

-- a fact that is held after a put was held before, or is one of its bits
pub put_facts : (P : ℕ → Type 0) (ws : List ℕ) (w x bits : ℕ) → w < length ws → x ≡ slice_index ws w
    → ((n : ℕ) → Holds ws n → P n) → ((i : ℕ) → bit_at bits i ≡ 1 → P (64 * w + i)) → (n : ℕ) → Holds (set ws w (bit_or x bits)) n → P n
put_facts P ws w x bits inside is old new n h = ⊎_elim
    (λ e.
    let b = holds_bit (set ws w (bit_or x bits)) n h in
    let there : bit_at (bit_or x bits) (n % 64) ≡ 1 = sym (bit_here ws w (bit_or x bits) (n % 64) inside) ∙ subst (λ j. bit (set ws w (bit_or x bits)) j (n % 64) ≡ 1) e b in
    let n_is : 64 * w + n % 64 ≡ n = ap (λ j. 64 * j + n % 64) (sym e) ∙ number_of n in
    ⊎_elim
    (λ was. old n (bit_holds ws n (ap (λ j. bit ws j (n % 64)) e ∙ sym (ap (λ y. bit_at y (n % 64)) is) ∙ was)))
    (λ put. subst P n_is (new (n % 64) put))
    (or_true x bits (n % 64) there))
    (λ ne. old n (bit_holds ws n (sym (bit_else ws w (bit_or x bits) (n / 64) (n % 64) ne) ∙ holds_bit (set ws w (bit_or x bits)) n h)))
    (cases_eq (n / 64) w)
