-- Where statements have the numbers 0, 1, and so on, the number of a statement of a function tells it.
use Rattle.std.proofs.Common.{◌≡◌, ◌≢◌, ℕ, zero, suc, ◌+◌, ◌≤◌, List, [], ◌∷◌, ◌++◌, map, length, Some, true, false, inl, inr, refl, sym, ap, ◌∙◌, subst, arith, eq-eqb}
use Rattle.std.specs.Prelude.{slice_get}
use Rattle.std.specs.List.{find, range_with_len}
use Rattle.std.specs.Option.{option_map_or}
use Rattle.std.proofs.lemmas.Bool.{ne_eqb}
use Rattle.c_tree.specs.declared.program.Function.{Function}
use Rattle.c_tree.specs.declared.program.Program.{Program}
use Rattle.dep_model.specs.Doings.{Doing, doing_number, body_doings, functions_doings, program_doings, doings_of}
use Rattle.dep_model.specs.VertexOrder.{has_number, doing_at}
use Rattle.dep_model.proofs.Membership.{IsIn}

-- they are numbered one after another, from n on
abbrev AreFrom : ℕ → List Doing → Type 0
AreFrom n [] = Unit {0}
AreFrom n (d ∷ ds) = (doing_number d ≡ n) × AreFrom (suc n) ds

from_range : (n k : ℕ) (ds : List Doing) → map doing_number ds ≡ range_with_len n k → AreFrom n ds
from_range n k [] e = tt
from_range n zero (d ∷ ds) e = cc
from_range n (suc k) (d ∷ ds) e =
    let first : doing_number d ≡ n = cc in
    let rest : map doing_number ds ≡ range_with_len (n + 1) k = cc in
    (first, subst (λ m. AreFrom m ds) (omega arith) (from_range (n + 1) k ds rest))

from_first : (n : ℕ) (ds es : List Doing) → AreFrom n (ds ++ es) → AreFrom n ds
from_first n [] es h = tt
from_first n (d ∷ ds) es h = (h.0, from_first (suc n) ds es h.1)

from_second : (n : ℕ) (ds es : List Doing) → AreFrom n (ds ++ es) → AreFrom (n + length ds) es
from_second n [] es h = subst (λ m. AreFrom m es) (omega arith) h
from_second n (d ∷ ds) es h = subst (λ m. AreFrom m es) (omega arith) (from_second (suc n) ds es h.1)

from_below : (n : ℕ) (ds : List Doing) (d : Doing) → AreFrom n ds → IsIn ds d → n ≤ doing_number d
from_below n [] d h i = absurd i
from_below n (e ∷ ds) d h (inl is) = let k : doing_number d ≡ n = ap doing_number (sym is) ∙ h.0 in omega (arith, k)
from_below n (e ∷ ds) d h (inr i) = let k = from_below (suc n) ds d h.1 i in omega (arith, k)

find_first : (i : ℕ) (e : Doing) (ds : List Doing) → has_number i e ≡ true → find (has_number i) (e ∷ ds) ≡ Some e
find_first i e ds is = rw is refl

find_later : (i : ℕ) (e : Doing) (ds : List Doing) → has_number i e ≡ false → find (has_number i) (e ∷ ds) ≡ find (has_number i) ds
find_later i e ds is = rw is refl

found_in : (n : ℕ) (ds : List Doing) (d : Doing) → AreFrom n ds → IsIn ds d → find (has_number (doing_number d)) ds ≡ Some d
found_in n [] d h i = absurd i
found_in n (e ∷ ds) d h (inl is) =
    find_first (doing_number d) e ds (eq-eqb (doing_number e) (doing_number d) (ap doing_number is)) ∙ ap Some is
found_in n (e ∷ ds) d h (inr i) =
    let k = from_below (suc n) ds d h.1 i in
    let first = h.0 in
    let other : doing_number e ≢ doing_number d = λ same. let z : suc n ≤ n = omega (arith, k, first, same) in absurd (omega (arith, z)) in
    find_later (doing_number d) e ds (ne_eqb (doing_number e) (doing_number d) other) ∙ found_in (suc n) ds d h.1 i

abbrev body_at : List Function → ℕ → List Doing
body_at fs f = option_map_or (λ (g : Function). body_doings g.body) (slice_get fs f) []

from_body : (n : ℕ) (fs : List Function) (f : ℕ) → AreFrom n (functions_doings fs) → (m : ℕ) × AreFrom m (body_at fs f)
from_body n [] f h = (n, tt)
from_body n (g ∷ fs) zero h = (n, from_first n (body_doings g.body) (functions_doings fs) h)
from_body n (g ∷ fs) (suc f) h = from_body (n + length (body_doings g.body)) fs f (from_second n (body_doings g.body) (functions_doings fs) h)

-- a statement of a function is found by its number
pub at_number : (p : Program) → map doing_number (program_doings p) ≡ range_with_len 0 p.statements → (f : ℕ) (d : Doing) → IsIn (doings_of p f) d → doing_at p f (doing_number d) ≡ Some d
at_number p numbered f d i =
    let h = from_body 0 p.functions f (from_range 0 p.statements (program_doings p) numbered) in found_in h.0 (doings_of p f) d h.1 i
