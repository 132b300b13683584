-- Rows of numbers, where one of them grows.
use Rattle.std.proofs.Common.{◌≡◌, ℕ, zero, suc, ◌-◌, ◌<◌, ◌≤◌, List, [], ◌∷◌, ◌++◌, map, length, set, get_or, replicate, Vec, Global, append-nil, inl, inr, arith, refl, sym, ap, ◌∙◌}
use Rattle.std.proofs.lemmas.Bool.{cases_lt}
use Rattle.std.proofs.lemmas.Bool.Decides.{nat_tests}
use Rattle.std.specs.Prelude.{Bool, false, ◌==◌, if◌then◌else◌}
use Rattle.std.proofs.lemmas.List.{get_or-replicate, get_or-append_right, get_or_append_left, length-replicate}
use Rattle.dep_model.specs.Groups.{if_same, row, rows_of, rows_from}

abbrev numbers_in : Vec ℕ Global → List ℕ
numbers_in r = r.items

with_test : (a b n : ℕ) (t : Bool) → (a == b) ≡ t → if_same a b n ≡ (if t then n ∷ [] else [])
with_test a b n t e = ap (λ x. if x then n ∷ [] else []) e

none_at_next : (i n : ℕ) → if_same 0 (suc i) n ≡ []
none_at_next i n = let e : (0 == suc i) ≡ false = grind (arith, nat_tests) in with_test 0 (suc i) n false e

none_at_first : (i n : ℕ) → if_same (suc i) 0 n ≡ []
none_at_first i n = let e : (suc i == 0) ≡ false = grind (arith, nat_tests) in with_test (suc i) 0 n false e

next_to_next : (i j n : ℕ) → if_same (suc i) (suc j) n ≡ if_same i j n
next_to_next i j n = let e : (suc i == suc j) ≡ (i == j) = grind (arith, nat_tests) in ap (λ x. if x then n ∷ [] else []) e

-- a number is added at the end of the row
pub row_grown : (t : List (Vec ℕ Global)) (at : ℕ) (old new : Vec ℕ Global) (n : ℕ) → at < length t → old ≡ get_or t at old → new.items ≡ old.items ++ n ∷ [] → (i : ℕ) → get_or (map numbers_in (set t at new)) i [] ≡ get_or (map numbers_in t) i [] ++ if_same at i n
row_grown [] at old new n lt is grown i = absurd (omega (arith, lt))
row_grown (x ∷ t) zero old new n lt is grown zero = grown ∙ ap (λ (r : Vec ℕ Global). r.items ++ n ∷ []) is
row_grown (x ∷ t) zero old new n lt is grown (suc i) = sym (append-nil (get_or (map numbers_in t) i [])) ∙ ap (λ more. get_or (map numbers_in t) i [] ++ more) (sym (none_at_next i n))
row_grown (x ∷ t) (suc at) old new n lt is grown zero = sym (append-nil x.items) ∙ ap (λ more. x.items ++ more) (sym (none_at_first at n))
row_grown (x ∷ t) (suc at) old new n lt is grown (suc i) =
    row_grown t at old new n (omega (arith, lt)) is grown i ∙ ap (λ more. get_or (map numbers_in t) i [] ++ more) (sym (next_to_next at i n))

-- an empty row is added
pub row_added : (t : List (Vec ℕ Global)) (new : Vec ℕ Global) → new.items ≡ [] → (i : ℕ) → get_or (map numbers_in (t ++ new ∷ [])) i [] ≡ get_or (map numbers_in t) i []
row_added [] new is zero = is
row_added [] new is (suc i) = refl
row_added (x ∷ t) new is zero = refl
row_added (x ∷ t) new is (suc i) = row_added t new is i

-- ---- rows of which the first is that of a statement

pub row_before : (first : ℕ) (t : Vec (Vec ℕ Global) Global) (i : ℕ) → i < first → row (rows_from first t) i ≡ []
row_before first t i lt =
    let long : length (replicate {A = List ℕ} first []) ≡ first = length-replicate first [] in
    get_or_append_left (replicate first []) (rows_of t) [] i (omega (arith, lt, long)) ∙ get_or-replicate first i [] [] lt

pub row_at : (first : ℕ) (t : Vec (Vec ℕ Global) Global) (i : ℕ) → first ≤ i → row (rows_from first t) i ≡ row (rows_of t) (i - first)
row_at first t i le = get_or-append_right (replicate first []) (rows_of t) first i [] (length-replicate first []) le

pub row_none : (first : ℕ) (t : Vec (Vec ℕ Global) Global) → t.items ≡ [] → (i : ℕ) → row (rows_from first t) i ≡ []
row_none first t none i = elim (cases_lt i first) [
  | inl h ↦ row_before first t i h
  | inr h ↦ row_at first t i h ∙ ap (λ rs. get_or (map numbers_in rs) (i - first) []) none
]

-- a number is added to the row of statement `id`
pub statement_grown : (first id n : ℕ) (old new : Vec (Vec ℕ Global) Global) → first ≤ id → ((j : ℕ) → row (rows_of new) j ≡ row (rows_of old) j ++ if_same (id - first) j n)
    → (i : ℕ) (b : Bool) → b ≡ (id == i) → row (rows_from first new) i ≡ row (rows_from first old) i ++ (if b then n ∷ [] else [])
statement_grown first id n old new le grown i b is = elim (cases_lt i first) [
  | inl h ↦
      let other : (id == i) ≡ false = grind (arith, nat_tests) in
      row_before first new i h ∙ ap (λ t. [] ++ (if t then n ∷ [] else [])) (sym (is ∙ other)) ∙ ap (λ r. r ++ (if b then n ∷ [] else [])) (sym (row_before first old i h))
  | inr h ↦
      let same : (id - first == i - first) ≡ (id == i) = grind (arith, nat_tests) in
      row_at first new i h ∙ grown (i - first) ∙ ap (λ t. row (rows_of old) (i - first) ++ (if t then n ∷ [] else [])) (same ∙ sym is) ∙ ap (λ r. r ++ (if b then n ∷ [] else [])) (sym (row_at first old i h))
]
