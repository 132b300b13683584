-- Which numbers are kept.
use Rattle.std.proofs.Common.{◌≡◌, ℕ, List, [], ◌∷◌, Bool, true, false, ◌||◌, refl, sym, ap, subst, inl, inr}
use Rattle.std.specs.List.{list_any}
use Rattle.std.proofs.lemmas.Bool.{false≢true}
use Rattle.c_language.proofs.Tests.{by_or}
use Rattle.dep_model.proofs.Membership.{IsIn}

-- one of some numbers passes a test
pub record Passing (test : ℕ → Bool) (ns : List ℕ) : Type 0 where
  pub number : ℕ
  pub member : IsIn ns number
  pub passes : test number ≡ true

pub passing : (test : ℕ → Bool) (ns : List ℕ) → list_any test ns ≡ true → Passing test ns
passing test [] e = absurd (false≢true e)
passing test (n ∷ ns) e =
    by_or (test n) (list_any test ns) e (λ h. record { number = n; member = inl refl; passes = h }) (λ h. let w = passing test ns h in record { number = w.number; member = inr w.member; passes = w.passes })

pub passes_any : (test : ℕ → Bool) (ns : List ℕ) (n : ℕ) → IsIn ns n → test n ≡ true → list_any test ns ≡ true
passes_any test [] n i e = absurd i
passes_any test (m ∷ ns) n (inl is) e = ap (λ b. b || list_any test ns) (subst (λ (x : ℕ). test x ≡ true) (sym is) e)
passes_any test (m ∷ ns) n (inr i) e = later (test m) (passes_any test ns n i e)
  where
    later : (b : Bool) → list_any test ns ≡ true → (b || list_any test ns) ≡ true
    later true h = refl
    later false h = h
