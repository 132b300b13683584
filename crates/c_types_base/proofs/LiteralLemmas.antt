-- Digits at the front, and the value of digits, one by one.
use Rattle.std.proofs.Common.{◌≡◌, ℕ, zero, suc, ◌+◌, ◌*◌, ◌^◌, ◌≤◌, ◌<◌, List, [], ◌∷◌, ◌++◌, take, drop, get_or, length, Bool, true, false, refl, subst, sym, ap, ◌∙◌, arith, drop-cons}
use Rattle.std.specs.Prelude.{pos, option_and_then, slice_get, slice_index, ◌==◌, if◌then◌else◌, fold, take_while, Option, Some, None, IfNone}
use Rattle.c_arith.specs.declared.int_type.IntType.{IntType}
use Rattle.c_arith.specs.declared.int_type.IntType.TheVariants.{Char, UChar, Short, UShort, Int, UInt, Long, ULong}
use Rattle.c_arith.specs.IntType.{lies_in}
use Rattle.c_language.specs.Constants.{unescaped, escape_value, constant_value, constant_type, Suffix, first_type, digits, base, suffix}
use Rattle.c_types_base.specs.Literals.{behind_backslash}

abbrev pub first_from : Option ℕ → Option ℕ → ℕ
first_from None next = 0
first_from (Some b) next = if b == 92 then behind_backslash next else b

-- the elements so far pass the test, and the rest is still to be tested
abbrev pub IsAhead : (ℕ → Bool) → List ℕ → ℕ → Type 0
IsAhead p xs i = take_while p xs ≡ take i xs ++ take_while p (drop i xs)

le_product : (n v : ℕ) → 1 ≤ n → v ≤ v * n
le_product zero v h = elim h [ ]
le_product (suc n) v h = grind arith

module _ (f : ℕ → ℕ) (n : ℕ) where
  -- digits never make a number smaller
  pub fold-least : (ds : List ℕ) (v : ℕ) → 1 ≤ n → v ≤ fold (λ v d. v * n + f d) v ds
  fold-least [] v h = omega arith
  fold-least (d ∷ ds) v h = omega (arith, le_product n v h, fold-least ds (v * n + f d) h)

  -- the next digit
  pub fold-next : (v i : ℕ) (ds : List ℕ) → i < length ds
      → fold (λ v d. v * n + f d) v (drop i ds) ≡ fold (λ v d. v * n + f d) (v * n + f (get_or ds i 0)) (drop (suc i) ds)
  fold-next v i ds h = rw (drop-cons ds i 0 h) refl

  -- where the next product or sum is too large, the whole number is
  pub fold-large : (v i : ℕ) (ds : List ℕ) {k : ℕ} → 1 ≤ n → i < length ds → k ≤ v * n + f (get_or ds i 0)
      → k ≤ fold (λ v d. v * n + f d) v (drop i ds)
  fold-large v i ds h within large = rw (fold-next v i ds within) (omega (arith, large, fold-least (drop (suc i) ds) (v * n + f (get_or ds i 0)) h))

pub none_where : {A P : Type 0} (x : Option A) → P → IfNone x P
none_where None p = p
none_where (Some a) p = tt

pub product_large : (v k : ℕ) {r n : ℕ} → r ≡ n → (v * r < k → ⊥) → (x : ℕ) → k ≤ v * n + x
product_large v k {r} {n} e large x = subst (λ m. k ≤ v * m + x) e (omega (arith, large))

pub sum_large : (v k s t x : ℕ) {r n : ℕ} → s ≡ v * r → r ≡ n → t ≡ x → (s + t < k → ⊥) → k ≤ v * n + x
sum_large v k s t x {r} {n} is e f large = subst (λ m. k ≤ v * m + x) e (omega (arith, is, f, large))

-- what the first byte of a spelling stands for
pub first_byte_is : (xs : List ℕ) → slice_index (unescaped false xs) 0 ≡ first_from (slice_get xs 0) (slice_get xs 1)
unfolding unescaped
first_byte_is [] = refl
first_byte_is (b ∷ []) = by_backslash (b == 92)
  where
    by_backslash : (is : Bool) → slice_index ((if is then [] else b ∷ []) ++ unescaped is []) 0 ≡ (if is then 0 else b)
    by_backslash true = refl
    by_backslash false = refl
first_byte_is (b ∷ (c ∷ rest)) = by_backslash (b == 92)
  where
    by_backslash : (is : Bool) → slice_index ((if is then [] else b ∷ []) ++ unescaped is (c ∷ rest)) 0 ≡ (if is then escape_value c else b)
    by_backslash true = refl
    by_backslash false = refl

-- a number of more than 64 bits is in no type
pub past : (t : IntType) (v : ℕ) → 2 ^ 64 ≤ v → lies_in t (pos v) ≡ false
past Char v h = grind (arith, h)
past UChar v h = grind (arith, h)
past Short v h = grind (arith, h)
past UShort v h = grind (arith, h)
past Int v h = grind (arith, h)
past UInt v h = grind (arith, h)
past Long v h = grind (arith, h)
past ULong v h = grind (arith, h)

pub no_type : (is_decimal : Bool) (v : ℕ) (s : Suffix) → 2 ^ 64 ≤ v → first_type is_decimal v s ≡ None
no_type true v Suffix.plain h = rw (past Int v h, past Long v h) refl
no_type false v Suffix.plain h = rw (past Int v h, past UInt v h, past Long v h, past ULong v h) refl
no_type d v Suffix.unsigned h = rw (past UInt v h, past ULong v h) refl
no_type true v Suffix.long h = rw (past Long v h) refl
no_type false v Suffix.long h = rw (past Long v h, past ULong v h) refl
no_type d v Suffix.unsigned_long h = rw (past ULong v h) refl

no_suffix : (is_decimal : Bool) (v : ℕ) (s : Option Suffix) → 2 ^ 64 ≤ v → option_and_then (first_type is_decimal v) s ≡ None
no_suffix d v None h = refl
no_suffix d v (Some s) h = no_type d v s h

none_or : (b : Bool) (x : Option IntType) → x ≡ None → (if b then None else x) ≡ None
none_or true x h = refl
none_or false x h = h

pub untyped : (text : List ℕ) → 2 ^ 64 ≤ constant_value text → constant_type text ≡ None
unfolding constant_type
untyped text h = none_or (length (digits text) == 0) _ (no_suffix (base text == 10) (constant_value text) (suffix text) h)

escaped_first : (b : ℕ) (next : Option ℕ) → b ≡ 92 → first_from (Some b) next ≡ behind_backslash next
escaped_first b next h = rw h refl

plain_first : (b : ℕ) (next : Option ℕ) → (b ≡ 92 → ⊥) → first_from (Some b) next ≡ b
plain_first b next h = grind (arith, h)

module _ (xs : List ℕ) (b : ℕ) (first : Some b ≡ slice_get xs 0) where
  pub first_escape : (r : ℕ) (next : Option ℕ) → b ≡ 92 → next ≡ slice_get xs 1 → r ≡ behind_backslash next → r ≡ slice_index (unescaped false xs) 0
  first_escape r next is second value =
      value ∙ (ap behind_backslash second ∙ sym (first_byte_is xs ∙ (ap (λ o. first_from o (slice_get xs 1)) (sym first) ∙ escaped_first b (slice_get xs 1) is)))

  pub first_plain : (b ≡ 92 → ⊥) → b ≡ slice_index (unescaped false xs) 0
  first_plain isnt = sym (first_byte_is xs ∙ (ap (λ o. first_from o (slice_get xs 1)) (sym first) ∙ plain_first b (slice_get xs 1) isnt))
