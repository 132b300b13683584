-- A number is a constant exactly where it is held.
use Rattle.std.proofs.Common.{◌≡◌, ℕ, ◌+◌, ◌*◌, ◌≤◌, [], ◌∷◌, length, take, drop, refl, sym, ap, ◌∙◌, cond, arith, true, false, Bool, Option, Some, None, option_map}
use Rattle.std.proofs.lemmas.Bool.Decides.{nat_tests}
use Rattle.std.proofs.lemmas.List.Folds.{length-prefix_len}
use Rattle.std.specs.Prelude.{nat_le, nat_lt, is_some, ◌==◌, ◌||◌, ◌&&◌, slice_index, option_and_then, if◌then◌else◌}
use Rattle.c_arith.specs.declared.int_type.IntType.TheVariants.{Int, UInt, Long, ULong}
use Rattle.c_language.specs.Words.{Bytes}
use Rattle.c_language.specs.Constants.{is_hexadecimal, base, digit_value, unprefixed, digits, value_from, constant_value, Suffix, is_u, is_l, suffix_of, first_type, constant_type}
use Rattle.c_language.proofs.Tests.{by_answer}
use Rattle.c_lex.specs.Numbers.{digits_len, capped, plain_most, most}

abbrev pub is_within : ℕ → Option ℕ → Bool
is_within v None = false
is_within v (Some m) = nat_le v m

-- a number of a base with so many digits behind its prefix
abbrev pub holds : ℕ → Bytes → ℕ → Bool
holds b body n = if n == 0 then false else is_within (capped b 0 (take n body)) (most (b == 10) (drop n body))

abbrev pub is_held : Bytes → Bool
is_held text = holds (base text) (unprefixed text) (digits_len (base text) (unprefixed text))

none_below : (v : ℕ) → nat_le 0 v ≡ true
none_below v = grind (arith, nat_tests)

-- the greatest value of a type with a suffix
most_of : Bool → Suffix → ℕ
most_of is_decimal Suffix.plain = plain_most is_decimal
most_of is_decimal Suffix.unsigned = 18446744073709551615
most_of is_decimal Suffix.long = plain_most is_decimal
most_of is_decimal Suffix.unsigned_long = 18446744073709551615

lower : (v m n : ℕ) → m ≤ n → nat_le v m ≡ true → nat_le v n ≡ true
lower v m n h t = grind (arith, nat_tests)

last_type : {A : Type 0} (b : Bool) (x : A) → is_some (cond b (Some x) None) ≡ b
last_type true x = refl
last_type false x = refl

one_before : {A : Type 0} (a b : Bool) (x : A) (o : Option A) → (a ≡ true → b ≡ true) → is_some o ≡ b → is_some (cond a (Some x) o) ≡ b
one_before true b x o h e = sym (h refl)
one_before false b x o h e = e

type_held : (is_decimal : Bool) (v : ℕ) (s : Suffix) → is_some (first_type is_decimal v s) ≡ nat_le v (most_of is_decimal s)
unfolding most_of
type_held true v Suffix.plain = one_before (nat_le v 2147483647) (nat_le v 9223372036854775807) Int _ (lower v 2147483647 9223372036854775807 (omega arith)) (last_type (nat_le v 9223372036854775807) Long)
type_held false v Suffix.plain = rw (none_below v)
    (one_before (nat_le v 2147483647) (nat_le v 18446744073709551615) Int _ (lower v 2147483647 18446744073709551615 (omega arith))
    (one_before (nat_le v 4294967295) (nat_le v 18446744073709551615) UInt _ (lower v 4294967295 18446744073709551615 (omega arith))
    (one_before (nat_le v 9223372036854775807) (nat_le v 18446744073709551615) Long _ (lower v 9223372036854775807 18446744073709551615 (omega arith)) (last_type (nat_le v 18446744073709551615) ULong))))
type_held is_decimal v Suffix.unsigned = rw (none_below v) (one_before (nat_le v 4294967295) (nat_le v 18446744073709551615) UInt _ (lower v 4294967295 18446744073709551615 (omega arith)) (last_type (nat_le v 18446744073709551615) ULong))
type_held true v Suffix.long = last_type (nat_le v 9223372036854775807) Long
type_held false v Suffix.long = rw (none_below v) (one_before (nat_le v 9223372036854775807) (nat_le v 18446744073709551615) Long _ (lower v 9223372036854775807 18446744073709551615 (omega arith)) (last_type (nat_le v 18446744073709551615) ULong))
type_held is_decimal v Suffix.unsigned_long = rw (none_below v) (last_type (nat_le v 18446744073709551615) ULong)

suffix_most : (is_decimal : Bool) (bytes : Bytes) → most is_decimal bytes ≡ option_map (most_of is_decimal) (suffix_of bytes)
unfolding most_of
suffix_most d [] = refl
suffix_most d (a ∷ []) = by_answer (is_u a) (λ t. rw t refl) (λ f. by_answer (is_l a) (λ t. rw (f, t) refl) (λ g. rw (f, g) refl))
suffix_most d (a ∷ (b ∷ [])) = by_answer ((is_u a && is_l b) || (is_l a && is_u b)) (λ t. rw t refl) (λ f. rw f refl)
suffix_most d (a ∷ (b ∷ (c ∷ more))) =
    let x : (length (a ∷ b ∷ c ∷ more) == 0) ≡ false = grind (arith, nat_tests) in
    let y : (length (a ∷ b ∷ c ∷ more) == 1) ≡ false = grind (arith, nat_tests) in
    let z : (length (a ∷ b ∷ c ∷ more) == 2) ≡ false = grind (arith, nat_tests) in
    rw (x, y, z) refl

-- ---- values

grows_by : (n v d : ℕ) → 1 ≤ n → v ≤ v * n + d
grows_by n v d h = grind arith

grows : (n v : ℕ) (ds : Bytes) → 1 ≤ n → v ≤ value_from n v ds
grows n v [] h = omega arith
grows n v (d ∷ ds) h = omega (arith, grows n (v * n + digit_value d) ds h, grows_by n v (digit_value d) h)

stays : (n v : ℕ) (ds : Bytes) → nat_le v 18446744073709551615 ≡ false → capped n v ds ≡ v
stays n v [] h = refl
stays n v (d ∷ ds) h = rw h (stays n v ds h)

above : (v w m : ℕ) → nat_le v 18446744073709551615 ≡ false → v ≤ w → m ≤ 18446744073709551615 → nat_le v m ≡ nat_le w m
above v w m h k l = let a : nat_le v m ≡ false = grind (arith, nat_tests) in let b : nat_le w m ≡ false = grind (arith, nat_tests) in a ∙ sym b

capped_same : (n v : ℕ) (ds : Bytes) (m : ℕ) → 1 ≤ n → m ≤ 18446744073709551615 → nat_le (capped n v ds) m ≡ nat_le (value_from n v ds) m
capped_same n v [] m h l = refl
capped_same n v (d ∷ ds) m h l = by_answer (nat_le v 18446744073709551615)
    (λ t. rw t (capped_same n (v * n + digit_value d) ds m h l))
    (λ f. rw (f, stays n v ds f) (above v (value_from n v (d ∷ ds)) m f (grows n v (d ∷ ds) h) l))

-- ---- constants

most_fits : (is_decimal : Bool) (s : Suffix) → most_of is_decimal s ≤ 18446744073709551615
unfolding most_of
most_fits true Suffix.plain = omega arith
most_fits false Suffix.plain = omega arith
most_fits is_decimal Suffix.unsigned = omega arith
most_fits true Suffix.long = omega arith
most_fits false Suffix.long = omega arith
most_fits is_decimal Suffix.unsigned_long = omega arith

typed : (n : ℕ) (is_decimal : Bool) (ds : Bytes) (o : Option Suffix) → 1 ≤ n → is_within (capped n 0 ds) (option_map (most_of is_decimal) o) ≡ is_some (option_and_then (first_type is_decimal (value_from n 0 ds)) o)
typed n is_decimal ds None h = refl
typed n is_decimal ds (Some s) h = capped_same n 0 ds (most_of is_decimal s) h (most_fits is_decimal s) ∙ sym (type_held is_decimal (value_from n 0 ds) s)

base_some : (text : Bytes) → 1 ≤ base text
base_some text = by_answer (is_hexadecimal text) (λ t. rw t (omega arith)) (λ f. by_answer (slice_index text 0 == 48) (λ t. rw (f, t) (omega arith)) (λ g. rw (f, g) (omega arith)))

pub constant_held : (text : Bytes) → is_held text ≡ is_some (constant_type text)
unfolding constant_type constant_value
constant_held text =
    let len : length (digits text) ≡ digits_len (base text) (unprefixed text) = length-prefix_len (λ b. nat_lt (digit_value b) (base text)) (unprefixed text) in
    by_answer (digits_len (base text) (unprefixed text) == 0)
    (λ t. rw (len, t) refl)
    (λ f. rw (len, f) (ap (is_within (capped (base text) 0 (digits text))) (suffix_most (base text == 10) (drop (digits_len (base text) (unprefixed text)) (unprefixed text)))
    ∙ typed (base text) (base text == 10) (digits text) (suffix_of (drop (digits_len (base text) (unprefixed text)) (unprefixed text))) (base_some text)))

module _ (text : Bytes) (b n : ℕ) (body : Bytes) (b_is : b ≡ base text) (body_is : body ≡ unprefixed text) (n_is : n ≡ digits_len b body) where
  held_by : holds b body n ≡ is_some (constant_type text)
  held_by = rw (n_is, body_is, b_is) (constant_held text)

  pub number_empty : n ≡ 0 → false ≡ is_some (constant_type text)
  number_empty h = let e : holds b body n ≡ false = rw h refl in sym e ∙ held_by

  pub number_within : (v m : ℕ) → (n ≡ 0 → ⊥) → v ≡ capped b 0 (take n body) → Some m ≡ most (b == 10) (drop n body) → nat_le v m ≡ is_some (constant_type text)
  number_within v m h k l = let z : (n == 0) ≡ false = grind (arith, nat_tests) in let e : holds b body n ≡ nat_le v m = rw (z, ← l, ← k) refl in sym e ∙ held_by

  pub number_no_suffix : (n ≡ 0 → ⊥) → None ≡ most (b == 10) (drop n body) → false ≡ is_some (constant_type text)
  number_no_suffix h l = let z : (n == 0) ≡ false = grind (arith, nat_tests) in let e : holds b body n ≡ false = rw (z, ← l) refl in sym e ∙ held_by
