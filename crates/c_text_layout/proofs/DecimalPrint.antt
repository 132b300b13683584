-- The decimal digits of a number are a constant.
use Rattle.std.proofs.Common.{◌≡◌, ℕ, ◌+◌, ◌*◌, ◌/◌, ◌%◌, ◌<◌, ◌≤◌, ◌^◌, [], ◌∷◌, ◌++◌, length, refl, ap, ap₂, ◌∙◌, true, false, Some, decimal, arith}
use Rattle.std.proofs.lemmas.Bool.{and_parts}
use Rattle.std.proofs.lemmas.Bool.Decides.{nat_tests}
use Rattle.std.proofs.lemmas.Fmt.{decimal_by_steps}
use Rattle.std.proofs.lemmas.List.{drop_all}
use Rattle.std.proofs.lemmas.List.Sums.{take_while-cons}
use Rattle.std.specs.List.{list_all}
use Rattle.std.specs.Prelude.{nat_le, nat_lt, ◌==◌, slice_index}
use Rattle.c_arith.specs.declared.int_type.IntType.{IntType}
use Rattle.c_arith.specs.declared.int_type.IntType.TheVariants.{Int, Long}
use Rattle.c_language.specs.Words.{Bytes}
use Rattle.c_language.specs.Characters.{is_digit, is_letter}
use Rattle.c_language.specs.Constants.{base, digit_value, unprefixed, leading_digits, digits, value_from, constant_value, Suffix, first_type, constant_type, IsConstant}
use Rattle.c_language.specs.ConstantEvaluation.{literal_value}
use Rattle.c_language.specs.Tokens.{number_goes_on, AreRun}
use Rattle.c_language.specs.declared.token.TokenKind.TheVariants.{Number}
use Rattle.c_text_layout.proofs.Written.{HasForm}
use Rattle.c_language.proofs.Tests.{by_answer}

-- ---- digits

record IsDecimalOf (n : ℕ) (ds : Bytes) : Type 0 where
  all : list_all is_digit ds ≡ true
  value : value_from 10 0 ds ≡ n
  some : 0 < length ds
  leads : 0 < n → (slice_index ds 0 == 48) ≡ false

digit_is : (d : ℕ) → d < 10 → is_digit (48 + d) ≡ true
digit_is d h = grind (arith, nat_tests)

digit_worth : (d : ℕ) → d < 10 → digit_value (48 + d) ≡ d
digit_worth d h =
    let a : nat_le 48 (48 + d) ≡ true = grind (arith, nat_tests) in
    let b : nat_le (48 + d) 57 ≡ true = grind (arith, nat_tests) in
    rw (a, b) (omega arith)

one_digit : (n : ℕ) → n < 10 → IsDecimalOf n ((48 + n) ∷ [])
one_digit n h = record {
  all = rw (digit_is n h) refl;
  value = let e = digit_worth n h in omega (arith, e);
  some = omega arith;
  leads = λ p. grind (arith, nat_tests);
}

all_append : (xs : Bytes) (c : ℕ) → list_all is_digit xs ≡ true → is_digit c ≡ true → list_all is_digit (xs ++ (c ∷ [])) ≡ true
all_append [] c h k = rw k refl
all_append (x ∷ xs) c h k = let p = and_parts _ _ h in let e : is_digit x ≡ true = p.0 in rw e (all_append xs c p.1 k)

value_append : (v : ℕ) (xs : Bytes) (c : ℕ) → value_from 10 v (xs ++ (c ∷ [])) ≡ value_from 10 v xs * 10 + digit_value c
value_append v [] c = refl
value_append v (x ∷ xs) c = value_append (v * 10 + digit_value x) xs c

index_append : (xs : Bytes) (c : ℕ) → 0 < length xs → slice_index (xs ++ (c ∷ [])) 0 ≡ slice_index xs 0
index_append [] c h = absurd (omega (arith, h))
index_append (x ∷ xs) c h = refl

length_more : (xs : Bytes) (c : ℕ) → 0 < length (xs ++ (c ∷ []))
length_more [] c = omega arith
length_more (x ∷ xs) c = omega arith

more_digits : (n : ℕ) (ds : Bytes) → 10 ≤ n → IsDecimalOf (n / 10) ds → IsDecimalOf n (ds ++ ((48 + n % 10) ∷ []))
more_digits n ds h p =
    let low : n % 10 < 10 = omega arith in
    record {
      all = all_append ds (48 + n % 10) p.all (digit_is (n % 10) low);
      value = let a = value_append 0 ds (48 + n % 10) in let b = digit_worth (n % 10) low in omega (arith, a, b, p.value);
      some = omega (arith, length_more ds (48 + n % 10));
      leads = λ q. ap (λ (x : ℕ). x == 48) (index_append ds (48 + n % 10) p.some) ∙ p.leads (omega arith);
    }

decimal_is : (n : ℕ) → n < 2 ^ 32 → IsDecimalOf n (decimal n)
decimal_is n h = decimal_by_steps IsDecimalOf one_digit more_digits n (omega arith)

-- ---- the constant that they are

below_ten : (b : ℕ) → is_digit b ≡ true → nat_lt (digit_value b) 10 ≡ true
below_ten b h =
    let p = and_parts _ _ h in
    let low : nat_le 48 b ≡ true = p.0 in
    let high : nat_le b 57 ≡ true = p.1 in
    rw (low, high) (grind (arith, nat_tests))

all_leading : (ds : Bytes) → list_all is_digit ds ≡ true → leading_digits 10 ds ≡ ds
all_leading [] h = refl
all_leading (b ∷ ds) h =
    let p = and_parts _ _ h in
    take_while-cons (λ (c : ℕ). nat_lt (digit_value c) 10) b ds ∙ rw (below_ten b p.0) (ap (λ (y : Bytes). b ∷ y) (all_leading ds p.1))

plain_type : (v : ℕ) → v < 2 ^ 32 → (t : IntType) × (first_type true v Suffix.plain ≡ Some t)
plain_type v h = by_answer (nat_le v 2147483647)
    (λ t. (Int, rw t refl))
    (λ f. let k : nat_le v 9223372036854775807 ≡ true = grind (arith, nat_tests) in (Long, rw (f, k) refl))

constant_of : (n : ℕ) (ds : Bytes) → 0 < n → n < 2 ^ 32 → IsDecimalOf n ds → IsConstant ds
unfolding constant_type constant_value
constant_of n ds some small p =
    let lead = p.leads some in
    let ten : base ds ≡ 10 = rw lead refl in
    let bare : unprefixed ds ≡ ds = rw lead refl in
    let all : digits ds ≡ ds = ap (λ (b : ℕ). leading_digits b (unprefixed ds)) ten ∙ ap (leading_digits 10) bare ∙ all_leading ds p.all in
    let t = plain_type n small in
    let len : (length ds == 0) ≡ false = grind (arith, nat_tests, p.some) in
    (t.0, rw (all, len, ten, bare, drop_all (length ds) ds (omega arith), p.value) t.1)

pub goes_on : (b c : ℕ) → is_digit c ≡ true → number_goes_on b c ≡ true
goes_on b c h = rw h (by_answer (is_letter c) (λ t. rw t refl) (λ f. rw f refl))

digit_run : (b : ℕ) (ds : Bytes) → list_all is_digit ds ≡ true → AreRun number_goes_on b ds
digit_run b [] h = AreRun.none
digit_run b (c ∷ ds) h = let p = and_parts _ _ h in AreRun.more (goes_on b c p.0) (digit_run c ds p.1)

form_of : (n : ℕ) (ds : Bytes) → 0 < n → n < 2 ^ 32 → IsDecimalOf n ds → HasForm Number ds
form_of n [] some small p = absurd (omega (arith, p.some))
form_of n (b ∷ ds) some small p = let q = and_parts _ _ p.all in HasForm.number q.0 (digit_run b ds q.1) (constant_of n (b ∷ ds) some small p)

pub decimal_form : (n : ℕ) → 0 < n → n < 2 ^ 32 → HasForm Number (decimal n)
decimal_form n some small = form_of n (decimal n) some small (decimal_is n small)

-- ---- what they are worth

value_of : (n : ℕ) (ds : Bytes) → 0 < n → IsDecimalOf n ds → constant_value ds ≡ n
unfolding constant_value
value_of n ds some p =
    let lead = p.leads some in
    let ten : base ds ≡ 10 = rw lead refl in
    let bare : unprefixed ds ≡ ds = rw lead refl in
    let all : digits ds ≡ ds = ap (λ (b : ℕ). leading_digits b (unprefixed ds)) ten ∙ ap (leading_digits 10) bare ∙ all_leading ds p.all in
    ap₂ (λ (b : ℕ) (xs : Bytes). value_from b 0 xs) ten all ∙ p.value

literal_of : (n : ℕ) (ds : Bytes) → 0 < n → n < 2 ^ 32 → IsDecimalOf n ds → literal_value ds ≡ n
literal_of n [] some small p = absurd (omega (arith, p.some))
literal_of n (b ∷ ds) some small p =
    let q = and_parts _ _ p.all in
    let low : nat_le 48 b ≡ true = (and_parts _ _ q.0).0 in
    let quote : (b == 39) ≡ false = grind (arith, nat_tests) in
    let c = constant_of n (b ∷ ds) some small p in
    rw (quote, c.1) (value_of n (b ∷ ds) some p)

-- the decimal digits of a number are worth the number
pub decimal_literal : (n : ℕ) → 0 < n → n < 2 ^ 32 → literal_value (decimal n) ≡ n
decimal_literal n some small = literal_of n (decimal n) some small (decimal_is n small)
