-- Rows of tests, where one of them grows.
use Rattle.std.proofs.Common.{◌≡◌, ℕ, zero, suc, ◌<◌, List, [], ◌∷◌, ◌++◌, map, length, set, get_or, Vec, Global, Bool, false, ◌&&◌, ◌||◌, arith, refl, sym, ap, ◌∙◌}
use Rattle.std.proofs.lemmas.Bool.Decides.{nat_tests}
use Rattle.std.specs.Prelude.{◌==◌}
use Rattle.bit_rows.specs.Sets.{has}
use Rattle.c_language.proofs.Tests.{or_none}
use Rattle.named_variables.specs.Marks.{Adds}
use Rattle.kept_numbers.specs.Pairs.{marked}

abbrev tests_in : Vec Bool Global → List Bool
tests_in r = r.items

abbrev row : List (Vec Bool Global) → List (List Bool)
row t = map tests_in t

none_new : (b c : Bool) (t : Bool) → t ≡ false → b ≡ (b || (t && c))
none_new b c t e = rw e (sym (or_none b))

-- a number is marked in one row
pub row_marked : (t : List (Vec Bool Global)) (at : ℕ) (old new : Vec Bool Global) (m : ℕ) → at < length t → old ≡ get_or t at old → Adds old.items new.items (λ x. m == x)
    → (i n : ℕ) → marked (row (set t at new)) i n ≡ (marked (row t) i n || ((at == i) && (m == n)))
row_marked [] at old new m lt is adds i n = absurd (omega (arith, lt))
row_marked (x ∷ t) zero old new m lt is adds zero n = adds n ∙ ap (λ (r : Vec Bool Global). has r.items n || (m == n)) is
row_marked (x ∷ t) zero old new m lt is adds (suc i) n = let e : (0 == suc i) ≡ false = grind (arith, nat_tests) in none_new (marked (row t) i n) (m == n) (0 == suc i) e
row_marked (x ∷ t) (suc at) old new m lt is adds zero n = let e : (suc at == 0) ≡ false = grind (arith, nat_tests) in none_new (has x.items n) (m == n) (suc at == 0) e
row_marked (x ∷ t) (suc at) old new m lt is adds (suc i) n =
    let e : (suc at == suc i) ≡ (at == i) = grind (arith, nat_tests) in
    row_marked t at old new m (omega (arith, lt)) is adds i n ∙ ap (λ b. marked (row t) i n || (b && (m == n))) (sym e)

-- an empty row is added
pub row_added : (t : List (Vec Bool Global)) (new : Vec Bool Global) → new.items ≡ [] → (i n : ℕ) → marked (row (t ++ new ∷ [])) i n ≡ marked (row t) i n
row_added [] new is zero n = ap (λ xs. has xs n) is
row_added [] new is (suc i) n = refl
row_added (x ∷ t) new is zero n = refl
row_added (x ∷ t) new is (suc i) n = row_added t new is i n
