-- The decimal digits of a number that they are worth are a constant.
use Rattle.std.proofs.Common.{◌≡◌, ◌<◌, ℕ, zero, suc, ◌/◌, ◌%◌, pos, [], ◌∷◌, length, true, false, Option, Some, None, refl, sym, ap, ◌∙◌, arith, decimal}
use Rattle.std.specs.Prelude.{◌==◌, nat_le, nat_lt, is_some}
use Rattle.std.specs.List.{list_all}
use Rattle.std.proofs.lemmas.Bool.{and_parts, and_from, or_left}
use Rattle.std.proofs.lemmas.Bool.Decides.{nat_tests}
use Rattle.std.specs.Fmt.{digits, digits_onto, digit_glyph}
use Rattle.c_arith.specs.declared.int_type.IntType.{IntType}
use Rattle.c_tree.specs.declared.raw.expr.RawExpr.TheVariants as e
use Rattle.c_language.specs.Words.{Bytes}
use Rattle.c_language.specs.Characters.{is_digit}
use Rattle.c_language.specs.Constants.{constant_type, constant_value, IsConstant}
use Rattle.c_language.specs.ConstantEvaluation.{is_character, value_if, literal_value, value_of_constant}
use Rattle.c_language.specs.Tokens.{number_goes_on}
use Rattle.c_language.specs.Spellings.{runs_on, is_number, is_constant}
use Rattle.c_language.proofs.Tests.{by_answer}
use Rattle.c_print_laws.proofs.Settling.{constant_value_of}
use Rattle.c_text_layout.proofs.DecimalPrint.{goes_on}
use Rattle.c_scope_laws.specs.Agreement.{IsCount}

digit_is : (n : ℕ) → is_digit (digit_glyph false (n % 10)) ≡ true
digit_is n =
    let low : n % 10 < 10 = omega arith in
    let t : nat_lt (n % 10) 10 ≡ true = grind (arith, nat_tests) in
    rw t (grind (arith, nat_tests, low))

onto_digits : (k n : ℕ) (acc : Bytes) → list_all is_digit acc ≡ true → list_all is_digit (digits_onto k 10 false n acc) ≡ true
onto_digits zero n acc h = h
onto_digits (suc k) n acc h =
    let d : is_digit (digit_glyph false (n % 10)) ≡ true = digit_is n in
    let a : list_all is_digit (digit_glyph false (n % 10) ∷ acc) ≡ true = rw d h in
    by_answer (n / 10 == 0) (λ t. rw t a) (λ f. rw f (onto_digits k (n / 10) (digit_glyph false (n % 10) ∷ acc) a))

onto_some : (k n : ℕ) (acc : Bytes) → 0 < length acc → 0 < length (digits_onto k 10 false n acc)
onto_some zero n acc h = h
onto_some (suc k) n acc h =
    let a : 0 < length (digit_glyph false (n % 10) ∷ acc) = omega arith in
    by_answer (n / 10 == 0) (λ t. rw t a) (λ f. rw f (onto_some k (n / 10) (digit_glyph false (n % 10) ∷ acc) a))

decimal_digits : (n : ℕ) → list_all is_digit (decimal n) ≡ true
unfolding digits
decimal_digits n = onto_digits 64 n [] refl

decimal_some : (n : ℕ) → 0 < length (decimal n)
unfolding digits
decimal_some n =
    let a : 0 < length (digit_glyph false (n % 10) ∷ []) = omega arith in
    by_answer (n / 10 == 0) (λ t. rw t a) (λ f. rw f (onto_some 63 (n / 10) (digit_glyph false (n % 10) ∷ []) a))

-- ---- the constant that a decimal number is

digit_no_quote : (b : ℕ) → is_digit b ≡ true → (b == 39) ≡ false
digit_no_quote b h = let p = and_parts _ _ h in let low : nat_le 48 b ≡ true = p.0 in grind (arith, nat_tests, low)

no_character : (ds : Bytes) → list_all is_digit ds ≡ true → 0 < length ds → is_character ds ≡ false
no_character [] h k = absurd (omega (arith, k))
no_character (b ∷ ds) h k = digit_no_quote b (and_parts (is_digit b) (list_all is_digit ds) h).0

some_value : (m n : ℕ) → ◌≡◌ {A = Option _} (Some (pos m)) (Some (pos n)) → m ≡ n
some_value m n e = cc

typed : (t : Option IntType) (v n : ℕ) → value_if t v ≡ n → 0 < n → (i : IntType) × (t ≡ Some i)
typed None v n e some = absurd (omega (arith, e, some))
typed (Some i) v n e some = (i, refl)

-- a text that is worth a number above 0, and is no character, is a constant
worth_constant : (text : Bytes) (n : ℕ) → list_all is_digit text ≡ true → 0 < length text → value_of_constant (e.Constant text) ≡ Some (pos n) → 0 < n → IsConstant text
worth_constant text n all some value more =
    let no : is_character text ≡ false = no_character text all some in
    let worth : literal_value text ≡ n = some_value (literal_value text) n (sym (constant_value_of text) ∙ value) in
    let plain : literal_value text ≡ value_if (constant_type text) (constant_value text) = rw no refl in
    typed (constant_type text) (constant_value text) n (sym plain ∙ worth) more

digits_run : (b : ℕ) (ds : Bytes) → list_all is_digit ds ≡ true → runs_on number_goes_on b ds ≡ true
digits_run b [] h = refl
digits_run b (c ∷ ds) h = let p = and_parts (is_digit c) (list_all is_digit ds) h in and_from _ _ (goes_on b c p.0) (digits_run c ds p.1)

digits_constant : (text : Bytes) → list_all is_digit text ≡ true → 0 < length text → IsConstant text → is_constant text ≡ true
digits_constant [] all some is = absurd (omega (arith, some))
digits_constant (b ∷ ds) all some is =
    let p = and_parts (is_digit b) (list_all is_digit ds) all in
    or_left (is_number (b ∷ ds)) _ (and_from _ _ p.0 (and_from _ _ (digits_run b ds p.1) (ap is_some is.1)))

-- the decimal digits of a number of items, which they are worth, are a constant
pub count_constant : (n : ℕ) → IsCount n (e.Constant (decimal n)) → is_constant (decimal n) ≡ true
count_constant n h =
    let all : list_all is_digit (decimal n) ≡ true = decimal_digits n in
    digits_constant (decimal n) all (decimal_some n) (worth_constant (decimal n) n all (decimal_some n) h.value h.some)
