-- The names and constants of a generated program are spelled as names and constants are.
use Rattle.std.proofs.Common.{◌≡◌, ℕ, zero, suc, ◌+◌, ◌<◌, ◌^◌, Bool, true, false, [], ◌∷◌, refl, sym, subst, decimal, arith}
use Rattle.std.specs.Prelude.{codes, bytes_eq, ◌||◌, nat_eq}
use Rattle.std.specs.List.{list_all}
use Rattle.std.proofs.lemmas.Bool.{and_from, and_parts}
use Rattle.std.proofs.lemmas.Bool.Decides.{nat_tests}
use Rattle.std.proofs.lemmas.Fmt.{decimal_digit}
use Rattle.c_language.specs.Words.{Bytes}
use Rattle.c_language.specs.Characters.{is_digit, is_letter, is_word_byte}
use Rattle.c_language.specs.Constants.{constant_type, constant_value}
use Rattle.c_language.specs.ExprGrammar.{is_plain_name}
use Rattle.c_language.specs.Sees.{is_keyword}
use Rattle.c_language.specs.Spellings.{runs_on, is_name, is_constant, is_own_name, is_used_name}
use Rattle.c_language.specs.StatementGrammar.{is_callee}
use Rattle.c_language.specs.Tokens.{name_goes_on}
use Rattle.big_laws.specs.Trees.{global_name, function_name}
use Rattle.big_laws.proofs.Digits.{AreDigits, decimal_digits}

or_second : (a b : Bool) → b ≡ true → (a || b) ≡ true
or_second true b h = refl
or_second false b h = h

digits_run : (b : ℕ) (ds : Bytes) → list_all is_digit ds ≡ true → runs_on name_goes_on b ds ≡ true
digits_run b [] h = refl
digits_run b (d ∷ ds) h =
    let both = and_parts (is_digit d) (list_all is_digit ds) h in
    and_from (is_word_byte d) (runs_on name_goes_on d ds) (or_second (is_letter d) (is_digit d) both.0) (digits_run d ds both.1)

no_letter : (d b : ℕ) → d < 10 → 58 < b → nat_eq (48 + d) b ≡ false
no_letter d b lt above = grind (arith, nat_tests)

module _ (number : ℕ) (small : number < 2 ^ 64) where
  digits : AreDigits (decimal number)
  digits = decimal_digits number small

  -- another word that begins with an f and a letter
  pub other_word : (b : ℕ) (rest : Bytes) → 58 < b → bytes_eq (function_name number) (102 ∷ (b ∷ rest)) ≡ false
  other_word b rest above = rw (digits.is, no_letter digits.digit b digits.below above) refl

  pub function_no_keyword : is_keyword (function_name number) ≡ false
  unfolding is_keyword
  function_no_keyword =
      rw (other_word 108 (codes "oat") (omega arith), other_word 111 (codes "r") (omega arith)) refl

  pub function_is_name : is_name (function_name number) ≡ true
  function_is_name =
      subst (λ (ds : Bytes). is_name (102 ∷ ds) ≡ true) (sym digits.is)
      (and_from (is_word_byte (48 + digits.digit)) (runs_on name_goes_on (48 + digits.digit) digits.rest) (first_runs digits.digit digits.below) (digits_run (48 + digits.digit) digits.rest digits.others)) where
        first_runs : (d : ℕ) → d < 10 → is_word_byte (48 + d) ≡ true
        first_runs d lt = grind (arith, nat_tests)

  pub function_is_own : is_own_name (function_name number) ≡ true
  function_is_own = rw (function_is_name, function_no_keyword) refl

  pub function_is_callee : is_callee (function_name number) ≡ true
  unfolding is_callee
  function_is_callee = rw function_no_keyword refl

  pub function_is_used : is_used_name (function_name number) ≡ true
  unfolding is_plain_name
  function_is_used = rw (function_is_name, function_no_keyword) refl

-- ---- globals and constants, which have one digit

pub global_is_own : (q : ℕ) → q < 4 → is_own_name (global_name q) ≡ true
unfolding is_keyword
global_is_own zero lt = rw (decimal_digit zero (omega arith)) refl
global_is_own (suc zero) lt = rw (decimal_digit (suc zero) (omega arith)) refl
global_is_own (suc (suc zero)) lt = rw (decimal_digit (suc (suc zero)) (omega arith)) refl
global_is_own (suc (suc (suc zero))) lt = rw (decimal_digit (suc (suc (suc zero))) (omega arith)) refl
global_is_own (suc (suc (suc (suc k)))) lt = absurd (omega (arith, lt))

pub global_is_used : (q : ℕ) → q < 4 → is_used_name (global_name q) ≡ true
unfolding is_keyword is_plain_name
global_is_used zero lt = rw (decimal_digit zero (omega arith)) refl
global_is_used (suc zero) lt = rw (decimal_digit (suc zero) (omega arith)) refl
global_is_used (suc (suc zero)) lt = rw (decimal_digit (suc (suc zero)) (omega arith)) refl
global_is_used (suc (suc (suc zero))) lt = rw (decimal_digit (suc (suc (suc zero))) (omega arith)) refl
global_is_used (suc (suc (suc (suc k)))) lt = absurd (omega (arith, lt))

-- a number that is added
pub constant_is : (k : ℕ) → k < 10 → is_constant (decimal k) ≡ true
unfolding constant_type constant_value
constant_is zero lt = rw (decimal_digit zero (omega arith)) refl
constant_is (suc zero) lt = rw (decimal_digit (suc zero) (omega arith)) refl
constant_is (suc (suc zero)) lt = rw (decimal_digit (suc (suc zero)) (omega arith)) refl
constant_is (suc (suc (suc zero))) lt = rw (decimal_digit (suc (suc (suc zero))) (omega arith)) refl
constant_is (suc (suc (suc (suc zero)))) lt = rw (decimal_digit (suc (suc (suc (suc zero)))) (omega arith)) refl
constant_is (suc (suc (suc (suc (suc zero))))) lt = rw (decimal_digit (suc (suc (suc (suc (suc zero))))) (omega arith)) refl
constant_is (suc (suc (suc (suc (suc (suc zero)))))) lt = rw (decimal_digit (suc (suc (suc (suc (suc (suc zero)))))) (omega arith)) refl
constant_is (suc (suc (suc (suc (suc (suc (suc zero))))))) lt = rw (decimal_digit (suc (suc (suc (suc (suc (suc (suc zero))))))) (omega arith)) refl
constant_is (suc (suc (suc (suc (suc (suc (suc (suc zero)))))))) lt = rw (decimal_digit (suc (suc (suc (suc (suc (suc (suc (suc zero)))))))) (omega arith)) refl
constant_is (suc (suc (suc (suc (suc (suc (suc (suc (suc zero))))))))) lt = rw (decimal_digit (suc (suc (suc (suc (suc (suc (suc (suc (suc zero))))))))) (omega arith)) refl
constant_is (suc (suc (suc (suc (suc (suc (suc (suc (suc (suc k)))))))))) lt = absurd (omega (arith, lt))
