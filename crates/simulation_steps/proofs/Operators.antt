-- What operators give of alike values.
use Rattle.std.proofs.Common.{◌≡◌, ℤ, Option, Some, None, Bool, true, false, not, refl, ap, subst}
use Rattle.std.specs.Prelude.{pos, option_map, option_and_then, if◌then◌else◌}
use Rattle.c_arith.specs.declared.int_type.IntType.{IntType}
use Rattle.c_arith.specs.declared.int_type.IntType.TheVariants.{Long}
use Rattle.c_arith.specs.declared.operators.UnaryOp.{UnaryOp}
use Rattle.c_arith.specs.declared.operators.UnaryOp.TheVariants.{Plus, Minus, Flip, Not}
use Rattle.c_arith.specs.declared.operators.BinaryOp.{BinaryOp}
use Rattle.c_arith.specs.declared.operators.BinaryOp.TheVariants.{Mul, Div, Rem, Add, Sub, Shl, Shr, Less, Greater, AtMost, AtLeast, Equal, Unequal, And, Xor, Or}
use Rattle.c_arith.specs.IntType.{promote}
use Rattle.c_arith.specs.Operators.{truth, binary}
use Rattle.c_language.specs.declared.expr_type.ExprType.{ExprType}
use Rattle.c_language.specs.ConstantEvaluation.{operand_type, promoted_unary, is_zero, and_value, or_value}
use Rattle.c_language.specs.ExprTypes.{integer_of, is_pointer, value_type}
use Rattle.c_language.specs.TreeTypes.{int_type}
use Rattle.c_meaning.specs.declared.value.Value.{Value}
use Rattle.c_meaning.specs.declared.value.Value.TheVariants.{Number, Null}
use Rattle.c_meaning.specs.Pointers.{at_indices, are_equal, equality, as_it_is, at_pointers, at_pointer_left, at_pointer_right}
use Rattle.c_meaning.specs.Values.{State, tested, number_as, pointer_as, as_type, number_in, operand_in, unary_value, at_numbers, converted_binary, at_operands, both_values, binary_value, and_both, or_both, chosen_value}
use Rattle.simulation.specs.Renaming.{World, AlikeValue, number, null, pointer, Names, BlocksStand}
use Rattle.simulation_steps.proofs.Outcomes.{ComesToo, undefined, comes}
use Rattle.simulation_steps.proofs.StandingObjects.{then_too, equal_too, together_too, moved_by_too, moved_back_too}

module _ (w : World) where
  -- ---- what is seen of a value

  pub tested_too : (u v : Value) → AlikeValue w u v → tested u ≡ tested v
  tested_too u v number = refl
  tested_too u v null = refl
  tested_too u v (pointer e) = refl

  pub number_too : (u v : Value) → AlikeValue w u v → number_in u ≡ number_in v
  number_too u v number = refl
  number_too u v null = refl
  number_too u v (pointer e) = refl

  -- a number is like itself
  pub numbers_alike : (o : Option ℤ) → ComesToo (AlikeValue w) (option_map Number o) (option_map Number o)
  numbers_alike None = undefined
  numbers_alike (Some z) = comes number

  same_numbers : (o p : Option ℤ) → o ≡ p → ComesToo (AlikeValue w) (option_map Number o) (option_map Number p)
  same_numbers o p e = subst (λ q. ComesToo (AlikeValue w) (option_map Number o) (option_map Number q)) e (numbers_alike o)

  -- ---- conversions

  as_number : (o : Option IntType) (z : ℤ) → AlikeValue w (number_as o z) (number_as o z)
  as_number None z = null
  as_number (Some k) z = number

  as_pointer : (b : Bool) (u v : Value) → AlikeValue w u v → ComesToo (AlikeValue w) (pointer_as b u) (pointer_as b v)
  as_pointer true u v e = comes e
  as_pointer false u v e = undefined

  pub converted_too : (k : ExprType) (u v : Value) → AlikeValue w u v → ComesToo (AlikeValue w) (as_type k u) (as_type k v)
  converted_too k u v (number {z = z}) = comes (as_number (integer_of k) z)
  converted_too k u v null = as_pointer (is_pointer k) Null Null null
  converted_too k u v (pointer e) = as_pointer (is_pointer k) _ _ (pointer e)

  -- ---- one operand

  operand_too : (op : UnaryOp) (u v : Value) → AlikeValue w u v → operand_in op u ≡ operand_in op v
  operand_too Not u v e = ap Some (tested_too u v e)
  operand_too Plus u v e = number_too u v e
  operand_too Minus u v e = number_too u v e
  operand_too Flip u v e = number_too u v e

  pub unary_too : (op : UnaryOp) (k : ExprType) (a b : Option Value) → ComesToo (AlikeValue w) a b → ComesToo (AlikeValue w) (unary_value op k a) (unary_value op k b)
  unary_too op k a b undefined = undefined
  unary_too op k a b (comes {a = u} {b = v} e) =
      same_numbers _ _ (ap (option_and_then (promoted_unary op (promote (int_type k)))) (operand_too op u v e))

  -- ---- two numbers

  numbers_too : (f : ℤ → ℤ → Option ℤ) (a b c d : Value) → AlikeValue w a c → AlikeValue w b d → ComesToo (AlikeValue w) (at_numbers f a b) (at_numbers f c d)
  numbers_too f a b c d (number {z = z}) e = same_numbers _ _ (ap (option_and_then (f z)) (number_too b d e))
  numbers_too f a b c d null e = undefined
  numbers_too f a b c d (pointer h) e = undefined

  -- ---- operands that are evaluated where the first one says so

  abbrev truth_of : Option Value → Option ℤ
  truth_of o = option_map (λ (y : ℤ). truth (not (is_zero y))) (option_map tested o)

  truth_too : (b d : Option Value) → ComesToo (AlikeValue w) b d → ComesToo (AlikeValue w) (option_map Number (truth_of b)) (option_map Number (truth_of d))
  truth_too b d undefined = undefined
  truth_too b d (comes {a = u} {b = v} e) = same_numbers (truth_of (Some u)) (truth_of (Some v)) (ap (λ z. Some (truth (not (is_zero z)))) (tested_too u v e))

  and_by : (z : Bool) (b d : Option Value) → (z ≡ false → ComesToo (AlikeValue w) b d) → ComesToo (AlikeValue w) (option_map Number (if z then Some (pos 0) else truth_of b)) (option_map Number (if z then Some (pos 0) else truth_of d))
  and_by true b d h = comes number
  and_by false b d h = truth_too b d (h refl)

  or_by : (z : Bool) (b d : Option Value) → (z ≡ true → ComesToo (AlikeValue w) b d) → ComesToo (AlikeValue w) (option_map Number (if z then truth_of b else Some (pos 1))) (option_map Number (if z then truth_of d else Some (pos 1)))
  or_by true b d h = truth_too b d (h refl)
  or_by false b d h = comes number

  -- the right operand of `&&` where the left one isn't 0, and of `||` where it is
  pub and_too : (a b c d : Option Value) → ComesToo (AlikeValue w) a c → ((u : Value) → a ≡ Some u → is_zero (tested u) ≡ false → ComesToo (AlikeValue w) b d) → ComesToo (AlikeValue w) (and_both a b) (and_both c d)
  and_too a b c d undefined h = undefined
  and_too a b c d (comes {a = u} {b = v} e) h =
      subst (λ z. ComesToo (AlikeValue w) (and_both (Some u) b) (option_map Number (and_value z (option_map tested d)))) (tested_too u v e) (and_by (is_zero (tested u)) b d (h u refl))

  pub or_too : (a b c d : Option Value) → ComesToo (AlikeValue w) a c → ((u : Value) → a ≡ Some u → is_zero (tested u) ≡ true → ComesToo (AlikeValue w) b d) → ComesToo (AlikeValue w) (or_both a b) (or_both c d)
  or_too a b c d undefined h = undefined
  or_too a b c d (comes {a = u} {b = v} e) h =
      subst (λ z. ComesToo (AlikeValue w) (or_both (Some u) b) (option_map Number (or_value z (option_map tested d)))) (tested_too u v e) (or_by (is_zero (tested u)) b d (h u refl))

  either_too : (z : Bool) (a b c d : Option Value) → (z ≡ false → ComesToo (AlikeValue w) a c) → (z ≡ true → ComesToo (AlikeValue w) b d) → ComesToo (AlikeValue w) (if z then b else a) (if z then d else c)
  either_too true a b c d f g = g refl
  either_too false a b c d f g = f refl

  -- the one of two that is evaluated
  pub chosen_too : (k : ExprType) (o a b p c d : Option Value) → ComesToo (AlikeValue w) o p → ((u : Value) → o ≡ Some u → is_zero (tested u) ≡ false → ComesToo (AlikeValue w) a c) → ((u : Value) → o ≡ Some u → is_zero (tested u) ≡ true → ComesToo (AlikeValue w) b d) → ComesToo (AlikeValue w) (chosen_value k o a b) (chosen_value k p c d)
  chosen_too k o a b p c d undefined f g = undefined
  chosen_too k o a b p c d (comes {a = u} {b = v} e) f g =
      subst (λ z. ComesToo (AlikeValue w) (chosen_value k (Some u) a b) (option_and_then (as_type k) (if is_zero z then d else c))) (tested_too u v e) (then_too (AlikeValue w) (AlikeValue w) (as_type k) (as_type k) (if is_zero (tested u) then b else a) (if is_zero (tested u) then d else c) (either_too (is_zero (tested u)) a b c d (f u refl) (g u refl)) (converted_too k))

module _ (names : Names) (w : World) (s t : State) (blocks : BlocksStand names w s t) where
  abbrev Alike : Option Value → Option Value → Type 0
  Alike = ComesToo (AlikeValue w)

  -- ---- two pointers

  abbrev Equals : (Bool → Bool) → Value → Value → Value → Value → Type 0
  Equals f a b c d = Alike (equality f (are_equal s.memory a b)) (equality f (are_equal t.memory c d))

  equality_too : (f : Bool → Bool) (o p : Option Bool) → o ≡ p → Alike (equality f o) (equality f p)
  equality_too f None p e = undefined
  equality_too f (Some x) p e = subst (λ q. Alike (equality f (Some x)) (equality f q)) e (comes number)

  equal_alike : (f : Bool → Bool) (a b c d : Value) → AlikeValue w a c → AlikeValue w b d → Equals f a b c d
  equal_alike f a b c d h k = equality_too f (are_equal s.memory a b) (are_equal t.memory c d) (equal_too names w s t blocks a b c d h k)

  if_numbers : (x y : Bool) (o : Option ℤ) → x ≡ y → Alike (if x then option_map Number o else None) (if y then option_map Number o else None)
  if_numbers true y o e = subst (λ z. Alike (option_map Number o) (if z then option_map Number o else None)) e (numbers_alike w o)
  if_numbers false y o e = undefined

  indices_too : (op : BinaryOp) (a b c d : Value) → AlikeValue w a c → AlikeValue w b d → Alike (at_indices op a b) (at_indices op c d)
  indices_too op a b c d (pointer {b = x} {c = y} {path = path} {index = i} h) (pointer {b = z} {c = u} {path = more} {index = j} k) =
      if_numbers _ _ (binary op Long (pos i) (pos j)) (together_too names w s t blocks x y z u path more i j h k)
  indices_too op a b c d (pointer h) number = undefined
  indices_too op a b c d (pointer h) null = undefined
  indices_too op a b c d number e = undefined
  indices_too op a b c d null e = undefined

  pointers_too : (op : BinaryOp) (a b c d : Value) → AlikeValue w a c → AlikeValue w b d → Alike (at_pointers op s.memory a b) (at_pointers op t.memory c d)
  pointers_too Sub a b c d h k = indices_too Sub a b c d h k
  pointers_too Less a b c d h k = indices_too Less a b c d h k
  pointers_too Greater a b c d h k = indices_too Greater a b c d h k
  pointers_too AtMost a b c d h k = indices_too AtMost a b c d h k
  pointers_too AtLeast a b c d h k = indices_too AtLeast a b c d h k
  pointers_too Equal a b c d h k = equal_alike as_it_is a b c d h k
  pointers_too Unequal a b c d h k = equal_alike not a b c d h k
  pointers_too Mul a b c d h k = undefined
  pointers_too Div a b c d h k = undefined
  pointers_too Rem a b c d h k = undefined
  pointers_too Add a b c d h k = undefined
  pointers_too Shl a b c d h k = undefined
  pointers_too Shr a b c d h k = undefined
  pointers_too And a b c d h k = undefined
  pointers_too Xor a b c d h k = undefined
  pointers_too Or a b c d h k = undefined

  -- ---- a pointer and a number

  left_too : (op : BinaryOp) (a b c d : Value) → AlikeValue w a c → AlikeValue w b d → Alike (at_pointer_left op s.memory a b) (at_pointer_left op t.memory c d)
  left_too Add a b c d h k = moved_by_too names w s t blocks a b c d h k
  left_too Sub a b c d h k = moved_back_too names w s t blocks a b c d h k
  left_too Equal a b c d h k = equal_alike as_it_is a b c d h k
  left_too Unequal a b c d h k = equal_alike not a b c d h k
  left_too Mul a b c d h k = undefined
  left_too Div a b c d h k = undefined
  left_too Rem a b c d h k = undefined
  left_too Shl a b c d h k = undefined
  left_too Shr a b c d h k = undefined
  left_too Less a b c d h k = undefined
  left_too Greater a b c d h k = undefined
  left_too AtMost a b c d h k = undefined
  left_too AtLeast a b c d h k = undefined
  left_too And a b c d h k = undefined
  left_too Xor a b c d h k = undefined
  left_too Or a b c d h k = undefined

  right_too : (op : BinaryOp) (a b c d : Value) → AlikeValue w a c → AlikeValue w b d → Alike (at_pointer_right op s.memory a b) (at_pointer_right op t.memory c d)
  right_too Add a b c d h k = moved_by_too names w s t blocks b a d c k h
  right_too Equal a b c d h k = equal_alike as_it_is a b c d h k
  right_too Unequal a b c d h k = equal_alike not a b c d h k
  right_too Sub a b c d h k = undefined
  right_too Mul a b c d h k = undefined
  right_too Div a b c d h k = undefined
  right_too Rem a b c d h k = undefined
  right_too Shl a b c d h k = undefined
  right_too Shr a b c d h k = undefined
  right_too Less a b c d h k = undefined
  right_too Greater a b c d h k = undefined
  right_too AtMost a b c d h k = undefined
  right_too AtLeast a b c d h k = undefined
  right_too And a b c d h k = undefined
  right_too Xor a b c d h k = undefined
  right_too Or a b c d h k = undefined

  -- ---- operators

  operands_too : (x y : Bool) (op : BinaryOp) (k : IntType) (a b c d : Value) → AlikeValue w a c → AlikeValue w b d → Alike (at_operands x y op k s.memory a b) (at_operands x y op k t.memory c d)
  operands_too true true op k a b c d h e = pointers_too op a b c d h e
  operands_too true false op k a b c d h e = left_too op a b c d h e
  operands_too false true op k a b c d h e = right_too op a b c d h e
  operands_too false false op k a b c d h e = numbers_too w (converted_binary op k) a b c d h e

  both_too : (x y : Bool) (op : BinaryOp) (k : IntType) (a b c d : Option Value) → Alike a c → Alike b d → Alike (both_values (at_operands x y op k s.memory) a b) (both_values (at_operands x y op k t.memory) c d)
  both_too x y op k a b c d undefined e = undefined
  both_too x y op k a b c d (comes h) undefined = undefined
  both_too x y op k a b c d (comes {a = u} {b = v} h) (comes {a = i} {b = j} e) = operands_too x y op k u i v j h e

  pub binary_too : (op : BinaryOp) (j k : ExprType) (a b c d : Option Value) → Alike a c → Alike b d → Alike (binary_value op j k s.memory a b) (binary_value op j k t.memory c d)
  binary_too op j k a b c d h e = both_too (is_pointer (value_type j)) (is_pointer (value_type k)) op (operand_type op (int_type j) (int_type k)) a b c d h e
