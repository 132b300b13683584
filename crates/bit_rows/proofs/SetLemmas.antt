-- Sets of numbers, for this crate and those above: membership, sets that are the same, unions, and that a
-- larger set has more members.
use Rattle.std.proofs.Common.{◌≡◌, ℕ, zero, suc, ◌<◌, ◌≤◌, inl, inr, Bool, true, false, ◌||◌, cond, List, [], ◌∷◌, length, replicate, refl, ap, ◌∙◌, arith}
use Rattle.std.proofs.lemmas.List.{ext_get_or, get_or_past, get_or-replicate, length-replicate}
use Rattle.std.proofs.lemmas.List.Sums.{sum_by-cons}
use Rattle.std.proofs.lemmas.Bool.{cases_lt, or_left}
use Rattle.bit_rows.specs.Sets.{has, IsSubset, union, count_of}

-- ---- members are below the bound
pub has_past : (s : List Bool) (i : ℕ) → length s ≤ i → has s i ≡ false
has_past s i h = get_or_past s i false h

-- sets with one bound and the same members are the same
pub same_set : (s t : List Bool) → length s ≡ length t → ((i : ℕ) → i < length s → has s i ≡ has t i) → s ≡ t
same_set s t l each = ext_get_or false s t l each

-- ---- the empty set
pub has-empty : (n i : ℕ) → has (replicate n false) i ≡ false
has-empty n i = elim (cases_lt i n) [
  | inl low ↦ get_or-replicate n i false false low
  | inr high ↦ has_past (replicate n false) i (let l : length (replicate n false) ≡ n = length-replicate n false in omega arith)
]

-- ---- unions
or_twice : (b : Bool) → (b || b) ≡ b
or_twice true = refl
or_twice false = refl

pub length-union : (s t : List Bool) → length (union s t) ≡ length s
length-union [] t = refl
length-union (x ∷ s) [] = refl
length-union (x ∷ s) (y ∷ t) = ap suc (length-union s t)

pub has-union : (s t : List Bool) (i : ℕ) → length s ≡ length t → has (union s t) i ≡ (has s i || has t i)
has-union [] [] i l = refl
has-union [] (y ∷ t) i l = cc
has-union (x ∷ s) [] i l = cc
has-union (x ∷ s) (y ∷ t) zero l = refl
has-union (x ∷ s) (y ∷ t) (suc i) l = has-union s t i (omega arith)

pub union_twice : (s : List Bool) → union s s ≡ s
union_twice [] = refl
union_twice (x ∷ s) = ap (λ b. b ∷ union s s) (or_twice x) ∙ ap (λ v. x ∷ v) (union_twice s)

-- the union is the least set that has both
pub union_left : (s t : List Bool) → length s ≡ length t → IsSubset s (union s t)
union_left s t l i h = has-union s t i l ∙ or_left (has s i) (has t i) h

-- ---- a larger set has more members
tail_subset : (x y : Bool) (s t : List Bool) → IsSubset (x ∷ s) (y ∷ t) → IsSubset s t
tail_subset x y s t a i h = a (suc i) h

abbrev one_if : Bool → ℕ
one_if b = cond b 1 0

one_if_le : (x y : Bool) → (x ≡ true → y ≡ true) → one_if x ≤ one_if y
one_if_le false y h = omega arith
one_if_le true y h = let e = ap one_if (h refl) in omega (arith, e)

same_one : (x y : Bool) → (x ≡ true → y ≡ true) → one_if y ≤ one_if x → y ≡ x
same_one true y h le = h refl
same_one false true h le = absurd (omega arith)
same_one false false h le = refl

pub count_monotone : (s t : List Bool) → length s ≡ length t → IsSubset s t → count_of s ≤ count_of t
count_monotone [] [] l a = omega arith
count_monotone [] (y ∷ t) l a = cc
count_monotone (x ∷ s) [] l a = cc
count_monotone (x ∷ s) (y ∷ t) l a =
    omega (arith, sum_by-cons one_if x s, sum_by-cons one_if y t, one_if_le x y (a 0), count_monotone s t (omega arith) (tail_subset x y s t a))

-- a set that has another one and no more members is the same
pub same_from_count : (s t : List Bool) → length s ≡ length t → IsSubset s t → count_of t ≤ count_of s → t ≡ s
same_from_count [] [] l a h = refl
same_from_count [] (y ∷ t) l a h = cc
same_from_count (x ∷ s) [] l a h = cc
same_from_count (x ∷ s) (y ∷ t) l a h =
    let below = tail_subset x y s t a in
    let first = sum_by-cons one_if x s in
    let second = sum_by-cons one_if y t in
    let head_le = one_if_le x y (a 0) in
    let tail_le = count_monotone s t (omega arith) below in
    let head = same_one x y (a 0) (omega arith) in
    let tail = same_from_count s t (omega arith) below (omega arith) in
    ap (λ b. b ∷ t) head ∙ ap (λ v. x ∷ v) tail
