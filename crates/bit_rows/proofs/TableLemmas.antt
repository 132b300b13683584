-- Tables of sets, for this crate and those above: sizes, tables that are the same, one set in place of
-- another, joins, and the count that bounds a loop to a fixed point.
use Rattle.std.proofs.Common.{◌≡◌, ◌≢◌, ℕ, suc, ◌<◌, ◌≤◌, ◌↔◌, inl, inr, Bool, true, false, List, [], ◌∷◌, length, get_or, replicate, sum_by, refl, sym, ap, ◌∙◌, subst, arith}
use Rattle.std.proofs.lemmas.List.{ext_get_or, get_or-set_same, get_or-set_other, length-set, get_or-replicate, length-replicate, set-get_or}
use Rattle.std.proofs.lemmas.List.Sums.{sum_by-cons}
use Rattle.std.proofs.lemmas.Bool.{cases_eq, cases_lt, false≢true}
use Rattle.bit_rows.specs.Sets.{has, IsSubset, union, count_of}
use Rattle.bit_rows.specs.Tables.{Table, the_set, with_set, empty_table, Holds, IsSized, IsSubtable, count_all, IsGrown}
use Rattle.bit_rows.proofs.SetLemmas.{length-union, union_twice, union_left, same_set, count_monotone, same_from_count}

-- ---- sizes
pub sized_empty : (rows bits : ℕ) → IsSized rows bits (empty_table rows bits)
sized_empty rows bits = record {
  rows_are = length-replicate rows (replicate bits false);
  bits_are = refl;
  full = λ r h. ap length (get_or-replicate rows r (replicate bits false) [] h) ∙ length-replicate bits false;
}

-- ---- the sets of a table with another set in one place
pub the_set-with_set : (t : Table) (r : ℕ) (s : List Bool) → r < length t.sets → the_set (with_set t r s) r ≡ s
the_set-with_set t r s h = get_or-set_same t.sets r s [] h

pub other-with_set : (t : Table) (r k : ℕ) (s : List Bool) → k ≢ r → the_set (with_set t r s) k ≡ the_set t k
other-with_set t r k s other = get_or-set_other t.sets r k s [] other

pub with_set_same : (t : Table) (r : ℕ) → with_set t r (the_set t r) ≡ t
with_set_same t r = ap (λ (v : List (List Bool)). let u : Table = record { bits = t.bits; sets = v } in u) (set-get_or t.sets r [])

pub holds_with_set : (t : Table) (r i : ℕ) (s : List Bool) → r < length t.sets → has s i ≡ true → Holds (with_set t r s) r i
holds_with_set t r i s h p = ap (λ v. has v i) (the_set-with_set t r s h) ∙ p

pub sized_with_set : (rows bits : ℕ) (t : Table) (r : ℕ) (s : List Bool) → IsSized rows bits t → length s ≡ bits → IsSized rows bits (with_set t r s)
sized_with_set rows bits t r s size l = record {
  rows_are = length-set t.sets r s ∙ size.rows_are;
  bits_are = size.bits_are;
  full = λ k h. elim (cases_eq k r) [
    | inl same ↦ ap (λ j. length (the_set (with_set t r s) j)) same ∙ ap length (the_set-with_set t r s (omega (arith, size.rows_are))) ∙ l
    | inr other ↦ ap length (other-with_set t r k s other) ∙ size.full k h
  ];
}

-- ---- tables of one size that hold the same are the same
from_sets : (rows bits : ℕ) (t u : Table) → IsSized rows bits t → IsSized rows bits u → ((r : ℕ) → r < rows → the_set t r ≡ the_set u r) → t ≡ u
from_sets rows bits t u a b each =
    let sets : t.sets ≡ u.sets = ext_get_or [] t.sets u.sets (a.rows_are ∙ sym b.rows_are) (λ r h. each r (omega (arith, a.rows_are))) in
    ap (λ (n : ℕ). let v : Table = record { bits = n; sets = t.sets } in v) (a.bits_are ∙ sym b.bits_are)
    ∙ ap (λ (v : List (List Bool)). let w : Table = record { bits = u.bits; sets = v } in w) sets

pub same_table : (rows bits : ℕ) (t u : Table) → IsSized rows bits t → IsSized rows bits u → ((r i : ℕ) → r < rows → i < bits → has (the_set t r) i ≡ has (the_set u r) i) → t ≡ u
same_table rows bits t u a b each = from_sets rows bits t u a b (λ r h. same_set (the_set t r) (the_set u r) (a.full r h ∙ sym (b.full r h)) (λ i k. each r i h (omega (arith, a.full r h))))

-- ---- the count
-- lists of sets, each of which has the one in its place
record AreSubsets (xs ys : List (List Bool)) : Type 0 where
  long : length xs ≡ length ys
  full : (r : ℕ) → r < length xs → length (get_or xs r []) ≡ length (get_or ys r [])
  each : (r : ℕ) → IsSubset (get_or xs r []) (get_or ys r [])

subsets_tail : (x y : List Bool) (xs ys : List (List Bool)) → AreSubsets (x ∷ xs) (y ∷ ys) → AreSubsets xs ys
subsets_tail x y xs ys a = record { long = omega (arith, a.long); full = λ r h. a.full (suc r) (omega arith); each = λ r. a.each (suc r) }

sum_monotone : (xs ys : List (List Bool)) → AreSubsets xs ys → sum_by count_of xs ≤ sum_by count_of ys
sum_monotone [] [] a = omega arith
sum_monotone [] (y ∷ ys) a = let l = a.long in cc
sum_monotone (x ∷ xs) [] a = let l = a.long in cc
sum_monotone (x ∷ xs) (y ∷ ys) a =
    omega (arith, sum_by-cons count_of x xs, sum_by-cons count_of y ys, count_monotone x y (a.full 0 (omega arith)) (a.each 0), sum_monotone xs ys (subsets_tail x y xs ys a))

same_from_sum : (xs ys : List (List Bool)) → AreSubsets xs ys → sum_by count_of ys ≤ sum_by count_of xs → ys ≡ xs
same_from_sum [] [] a h = refl
same_from_sum [] (y ∷ ys) a h = let l = a.long in cc
same_from_sum (x ∷ xs) [] a h = let l = a.long in cc
same_from_sum (x ∷ xs) (y ∷ ys) a h =
    let long : length x ≡ length y = a.full 0 (omega arith) in
    let rest = subsets_tail x y xs ys a in
    let first = sum_by-cons count_of x xs in
    let second = sum_by-cons count_of y ys in
    let head_le = count_monotone x y long (a.each 0) in
    let tail_le = sum_monotone xs ys rest in
    let head = same_from_count x y long (a.each 0) (omega arith) in
    let tail = same_from_sum xs ys rest (omega arith) in
    ap (λ v. v ∷ ys) head ∙ ap (λ v. x ∷ v) tail

subsets_of : (rows bits : ℕ) (t u : Table) → IsSized rows bits t → IsSized rows bits u → IsSubtable t u → AreSubsets t.sets u.sets
subsets_of rows bits t u a b up = record {
  long = a.rows_are ∙ sym b.rows_are;
  full = λ r h. a.full r (omega (arith, a.rows_are)) ∙ sym (b.full r (omega (arith, a.rows_are)));
  each = up;
}

-- a table that holds another one and no more is the same
pub same_from_count_all : (rows bits : ℕ) (t u : Table) → IsSized rows bits t → IsSized rows bits u → IsSubtable t u → count_all u ≤ count_all t → u ≡ t
same_from_count_all rows bits t u a b up h =
    let sets = same_from_sum t.sets u.sets (subsets_of rows bits t u a b up) h in
    ap (λ (n : ℕ). let v : Table = record { bits = n; sets = u.sets } in v) (b.bits_are ∙ sym a.bits_are)
    ∙ ap (λ (v : List (List Bool)). let w : Table = record { bits = t.bits; sets = v } in w) sets

-- a table that grew holds more
pub count_all_rises : (rows bits : ℕ) (t u : Table) → IsSized rows bits t → IsSized rows bits u → IsSubtable t u → u ≢ t → count_all t < count_all u
count_all_rises rows bits t u a b up changed = elim (cases_lt (count_all t) (count_all u)) [
  | inl more ↦ more
  | inr none ↦ absurd (changed (same_from_count_all rows bits t u a b up none))
]

-- ---- growth
pub grown_from_subtable : (rows bits : ℕ) (old new : Table) (changed : Bool) → IsSized rows bits old → IsSized rows bits new → IsSubtable old new → (changed ≡ false) ↔ (new ≡ old) → IsGrown old new changed
grown_from_subtable rows bits old new changed a b up told = record {
  kept = up;
  more = λ yes_. count_all_rises rows bits old new a b up (λ same. false≢true (sym (told.1 same) ∙ yes_));
  same = told.0;
}

-- ---- set s joined into set r
module _ (rows bits : ℕ) (old new : Table) (r : ℕ) (s : List Bool) (size : IsSized rows bits old) (r_in : r < rows) (long : length s ≡ bits) (is : new ≡ with_set old r (union (the_set old r) s)) where
  lengths : length (the_set old r) ≡ length s
  lengths = size.full r r_in ∙ sym long

  place : r < length old.sets
  place = omega (arith, size.rows_are)

  pub join_kept : IsSubtable old new
  join_kept k i h = subst (λ t. Holds t k i) (sym is) (elim (cases_eq k r) [
    | inl same ↦ subst (λ j. Holds (with_set old r (union (the_set old r) s)) j i) (sym same) (holds_with_set old r i (union (the_set old r) s) place (union_left (the_set old r) s lengths i (subst (λ j. Holds old j i) same h)))
    | inr other ↦ ap (λ v. has v i) (other-with_set old r k (union (the_set old r) s) other) ∙ h
  ])

  pub join_sized : IsSized rows bits new
  join_sized = subst (IsSized rows bits) (sym is) (sized_with_set rows bits old r (union (the_set old r) s) size (length-union (the_set old r) s ∙ size.full r r_in))

  pub join_grown : (changed : Bool) → (changed ≡ false) ↔ (new ≡ old) → IsGrown old new changed
  join_grown changed told = grown_from_subtable rows bits old new changed size join_sized join_kept told

-- a set joined into itself leaves the table
pub join_same : (t : Table) (r : ℕ) → with_set t r (union (the_set t r) (the_set t r)) ≡ t
join_same t r = ap (with_set t r) (union_twice (the_set t r)) ∙ with_set_same t r
