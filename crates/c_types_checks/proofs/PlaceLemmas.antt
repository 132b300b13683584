-- The first that passes a test, and those before a place.
use Rattle.std.proofs.Common.{◌≡◌, ℕ, zero, suc, List, [], ◌∷◌, take, Bool, true, false, cond, Option, Some, None, refl, sym, ap, ◌∙◌, arith}
use Rattle.std.specs.Prelude.{nat_lt, ◌||◌, option_map, position}
use Rattle.std.specs.List.{list_any}
use Rattle.std.proofs.lemmas.Bool.Decides.{nat_tests}
use Rattle.c_language.proofs.Lists.{position-cons}
use Rattle.c_types_base.proofs.NameLemmas.{first_within}

-- a place is before another
abbrev pub is_within : ℕ → Option ℕ → Bool
is_within k None = false
is_within k (Some i) = nat_lt i k

none_within : (o : Option ℕ) → is_within 0 o ≡ false
none_within None = refl
none_within (Some i) = grind (arith, nat_tests)

later : (k : ℕ) (o : Option ℕ) → is_within (suc k) (option_map suc o) ≡ is_within k o
later k None = refl
later k (Some i) = grind (arith, nat_tests)

by_test : (b rest : Bool) (k : ℕ) (o : Option ℕ) → rest ≡ is_within k o → (b || rest) ≡ is_within (suc k) (cond b (Some 0) (option_map suc o))
by_test true rest k o h = sym (first_within k)
by_test false rest k o h = h ∙ sym (later k o)

-- whether one of the first passes is told by the first place that passes
pub any_before : {A : Type 0} (p : A → Bool) (k : ℕ) (xs : List A) → list_any p (take k xs) ≡ is_within k (position p xs)
any_before p zero xs = sym (none_within (position p xs))
any_before p (suc k) [] = refl
any_before p (suc k) (x ∷ xs) =
    by_test (p x) (list_any p (take k xs)) k (position p xs) (any_before p k xs) ∙ ap (is_within (suc k)) (sym (position-cons p x xs))
