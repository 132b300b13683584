-- Shifts by amounts that no integer type holds.
use Rattle.std.proofs.Common.{◌≡◌, ◌⊎◌, inl, inr, ◌≤◌, ℤ, pos, negsuc, ◌≤ℤ◌, Bool, false, Option, Some, None, refl, sym, ap, ◌∙◌, arith}
use Rattle.std.proofs.lemmas.Bool.Decides.{nat_tests}
use Rattle.std.proofs.lemmas.Int.{ints}
use Rattle.std.specs.Prelude.{nat_lt, if◌then◌else◌, option_and_then, option_map}
use Rattle.c_arith.specs.declared.int_type.IntType.{IntType}
use Rattle.c_arith.specs.declared.int_type.IntType.TheVariants.{Char, UChar, Short, UShort, Int, UInt, Long, ULong}
use Rattle.c_arith.specs.declared.operators.BinaryOp.{BinaryOp}
use Rattle.c_arith.specs.declared.operators.BinaryOp.TheVariants.{Shl, Shr}
use Rattle.c_arith.specs.IntType.{width, convert}
use Rattle.c_language.specs.ConstantEvaluation.{right_value}
use Rattle.c_meaning.specs.Values.{converted_binary}
use Rattle.c_arith.specs.Operators.{shift_amount, shift_left, shift_right, binary}

width_small : (t : IntType) → width t ≤ 64
width_small Char = omega arith
width_small UChar = omega arith
width_small Short = omega arith
width_small UShort = omega arith
width_small Int = omega arith
width_small UInt = omega arith
width_small Long = omega arith
width_small ULong = omega arith

-- an amount below 0, or above those of an unsigned long, moves no bits
pub no_amount : (t : IntType) (y : ℤ) → (y ≤ℤ negsuc 0) ⊎ (pos 64 ≤ℤ y) → shift_amount t y ≡ None
no_amount t (negsuc k) h = refl
no_amount t (pos k) (inl low) = let no : ⊥ = omega (arith, ints, low) in absurd no
no_amount t (pos k) (inr high) =
    let small = width_small t in
    let past : nat_lt k (width t) ≡ false = grind (arith, nat_tests, ints) in
    ap (λ (test : Bool). if test then Some k else None) past

pub no_left_shift : (t : IntType) (x y : ℤ) → (y ≤ℤ negsuc 0) ⊎ (pos 64 ≤ℤ y) → None ≡ binary Shl t x y
unfolding binary
no_left_shift t x y h = sym (ap (option_and_then (shift_left t x)) (no_amount t y h))

pub no_right_shift : (t : IntType) (x y : ℤ) → (y ≤ℤ negsuc 0) ⊎ (pos 64 ≤ℤ y) → None ≡ binary Shr t x y
unfolding binary
no_right_shift t x y h = sym (ap (option_map (shift_right x)) (no_amount t y h))

-- a shift by what is no amount is a shift by -1
pub left_as_far : (t : IntType) (x y : ℤ) → (y ≤ℤ negsuc 0) ⊎ (pos 64 ≤ℤ y) → binary Shl t x (negsuc 0) ≡ binary Shl t x y
left_as_far t x y h = sym (no_left_shift t x (negsuc 0) (inl (omega (arith, ints)))) ∙ no_left_shift t x y h

pub right_as_far : (t : IntType) (x y : ℤ) → (y ≤ℤ negsuc 0) ⊎ (pos 64 ≤ℤ y) → binary Shr t x (negsuc 0) ≡ binary Shr t x y
right_as_far t x y h = sym (no_right_shift t x (negsuc 0) (inl (omega (arith, ints)))) ∙ no_right_shift t x y h

-- an operator at two numbers, by its operands once they are converted
pub converted_by : (op : BinaryOp) (t : IntType) (x y left right : ℤ) (r : Option ℤ) → r ≡ binary op t left right → left ≡ convert x t
    → ((z : ℤ) → binary op t z right ≡ binary op t z (right_value op t y)) → r ≡ converted_binary op t x y
converted_by op t x y left right r e same at = e ∙ ap (λ (z : ℤ). binary op t z right) same ∙ at (convert x t)
