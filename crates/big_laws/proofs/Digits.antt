-- The names of functions: a letter and decimal digits, so that they are apart, and are no keywords.
use Rattle.std.proofs.Common.{◌≡◌, ℕ, ◌+◌, ◌%◌, ◌<◌, ◌≤◌, ◌^◌, Bool, true, false, List, [], ◌∷◌, ◌++◌, refl, ap, decimal, arith}
use Rattle.std.specs.Prelude.{bytes_eq, ◌≢◌}
use Rattle.std.specs.List.{list_all}
use Rattle.std.proofs.lemmas.Bool.{and_from}
use Rattle.std.proofs.lemmas.Bool.Decides.{nat_tests}
use Rattle.std.proofs.lemmas.Fmt.{decimal_by_steps, decimal_injective}
use Rattle.std.proofs.lemmas.Slice.Eq.{bytes_eq-Decides}
use Rattle.c_language.specs.Words.{Bytes}
use Rattle.c_language.specs.Characters.{is_digit}
use Rattle.c_language.proofs.Lists.{all_append, same_bytes}
use Rattle.big_laws.specs.Trees.{function_name}

-- bytes that begin with a digit, and are all digits
pub record AreDigits (ds : Bytes) : Type 0 where
  pub digit : ℕ
  pub rest : Bytes
  pub below : digit < 10
  pub is : ds ≡ (48 + digit) ∷ rest
  pub others : list_all is_digit rest ≡ true

a_digit : (n : ℕ) → n < 10 → is_digit (48 + n) ≡ true
a_digit n lt = grind (arith, nat_tests)

one_digit : (n : ℕ) → n < 10 → AreDigits ((48 + n) ∷ [])
one_digit n lt = record { digit = n; rest = []; below = lt; is = refl; others = refl }

more_digits : (n : ℕ) (ds : List ℕ) → 10 ≤ n → AreDigits ds → AreDigits (ds ++ ((48 + n % 10) ∷ []))
more_digits n ds le h = record {
  digit = h.digit;
  rest = h.rest ++ ((48 + n % 10) ∷ []);
  below = h.below;
  is = ap (λ (y : Bytes). y ++ ((48 + n % 10) ∷ [])) h.is;
  others = all_append is_digit h.rest ((48 + n % 10) ∷ []) h.others (and_from (is_digit (48 + n % 10)) true (a_digit (n % 10) (omega arith)) refl);
}

pub decimal_digits : (n : ℕ) → n < 2 ^ 64 → AreDigits (decimal n)
decimal_digits n lt = decimal_by_steps (λ (n : ℕ) (ds : List ℕ). AreDigits ds) one_digit more_digits n lt

-- functions with different numbers have different names
pub names_differ : (m n : ℕ) → m < 2 ^ 64 → n < 2 ^ 64 → m ≢ n → bytes_eq (function_name m) (function_name n) ≡ false
names_differ m n lt lt' apart = differ (bytes_eq (decimal m) (decimal n)) refl where
  differ : (b : Bool) → bytes_eq (decimal m) (decimal n) ≡ b → bytes_eq (function_name m) (function_name n) ≡ false
  differ true e = absurd (apart (decimal_injective m n lt lt' (same_bytes (decimal m) (decimal n) e)))
  differ false e = e

-- a name is its own
pub own_name : (w : Bytes) → bytes_eq w w ≡ true
own_name w = (bytes_eq-Decides w w).1 refl
