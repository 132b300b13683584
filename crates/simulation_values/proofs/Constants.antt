-- An expression of which no variable and no place is a part comes to the same in each state of each program, and leads nowhere.
use Rattle.std.proofs.Common.{◌≡◌, ℕ, ℤ, Option, Some, None, Bool, true, false, ◌&&◌, if◌then◌else◌, refl, sym, ap, ap₂, ◌∙◌, subst}
use Rattle.std.specs.Prelude.{option_map, option_and_then}
use Rattle.std.proofs.lemmas.Bool.{false≢true, and_parts}
use Rattle.c_arith.specs.declared.int_type.IntType.{IntType}
use Rattle.c_arith.specs.declared.operators.BinaryOp.{BinaryOp}
use Rattle.c_arith.specs.declared.operators.BinaryOp.TheVariants.{Mul, Div, Rem, Add, Sub, Shl, Shr, Less, Greater, AtMost, AtLeast, Equal, Unequal, And, Xor, Or}
use Rattle.c_tree.specs.declared.expr.Expr.{Expr, roll-Expr, map-Expr, fold-roll-Expr}
use Rattle.c_tree.specs.declared.expr.Expr.TheOpen.{Expr-F}
use Rattle.c_tree.proofs.Trees.{ExprParts, expr_layer, of_every_expr}
use Rattle.c_language.specs.declared.expr_type.ExprType.{ExprType}
use Rattle.c_language.specs.ConstantEvaluation.{operand_type, is_zero}
use Rattle.c_language.specs.DeclaredTypes.{integer}
use Rattle.c_language.specs.ExprTypes.{integer_of, is_pointer, value_type}
use Rattle.c_language.specs.TreeTypes.{int_type, binary_tree_type, chosen_type}
use Rattle.c_meaning.specs.declared.value.Value.{Value}
use Rattle.c_meaning.specs.declared.value.Value.TheVariants.{Number, Null, To}
use Rattle.c_meaning.specs.Memory.{Memory}
use Rattle.c_meaning.specs.Values.{Types, State, Meant, meant_step, meant, number_as, pointer_as, as_type, tested, number_in, converted_binary, at_numbers, at_operands, unary_value, binary_value, and_both, or_both, chosen_value}
use Rattle.projection.specs.Renumbering.{renamed}
use Rattle.own_words.proofs.Exprs.{renamed_layer, fold_renamed}
use Rattle.typed_programs.specs.FixedValues.{fixed_step, is_fixed}

-- a number, a null pointer, or nothing
pub data IsPlainValue : Option Value → Type 0 where
  nothing : IsPlainValue None
  a_number : {z : ℤ} → IsPlainValue (Some (Number z))
  a_null : IsPlainValue (Some Null)

plain_number : (o : Option ℤ) → IsPlainValue (option_map Number o)
plain_number None = nothing
plain_number (Some z) = a_number

plain_as_number : (o : Option IntType) (z : ℤ) → IsPlainValue (Some (number_as o z))
plain_as_number None z = a_null
plain_as_number (Some t) z = a_number

plain_pointer : (b : Bool) → IsPlainValue (pointer_as b Null)
plain_pointer true = a_null
plain_pointer false = nothing

-- and so it is where it is converted
pub plain_as : (t : ExprType) (o : Option Value) → IsPlainValue o → IsPlainValue (option_and_then (as_type t) o)
plain_as t o nothing = nothing
plain_as t o (a_number {z = z}) = plain_as_number (integer_of t) z
plain_as t o a_null = plain_pointer (is_pointer t)

plain_choice : (c a b : Option Value) → IsPlainValue a → IsPlainValue b → IsPlainValue (option_and_then (λ (v : Value). if is_zero (tested v) then b else a) c)
plain_choice None a b h k = nothing
plain_choice (Some v) a b h k = by_test (is_zero (tested v))
  where
    by_test : (t : Bool) → IsPlainValue (if t then b else a)
    by_test true = k
    by_test false = h

-- ---- operators at such values ask no memory

-- what an operator gives at two values in any memory
record IsSteady (op : BinaryOp) (p q : Bool) (k : IntType) (x y : Value) : Type 0 where
  same : (m n : Memory) → at_operands p q op k n x y ≡ at_operands p q op k m x y
  plain : (m : Memory) → IsPlainValue (at_operands p q op k m x y)

at_no_pointers : (op : BinaryOp) (k : IntType) (x y : Value) → IsPlainValue (at_numbers (converted_binary op k) x y)
at_no_pointers op k (Number z) y = plain_number (option_and_then (converted_binary op k z) (number_in y))
at_no_pointers op k Null y = nothing
at_no_pointers op k (To p) y = nothing

numbers_steady : (op : BinaryOp) (k : IntType) (x y : Value) → IsSteady op false false k x y
numbers_steady op k x y = record { same = λ m n. refl; plain = λ m. at_no_pointers op k x y }

abbrev SteadyAt : Bool → Bool → Type 0
SteadyAt p q = (op : BinaryOp) (k : IntType) (x y : Value) → IsPlainValue (Some x) → IsPlainValue (Some y) → IsSteady op p q k x y

pointers_steady : SteadyAt true true
pointers_steady Mul k x y h g = record { same = λ m n. refl; plain = λ m. nothing }
pointers_steady Div k x y h g = record { same = λ m n. refl; plain = λ m. nothing }
pointers_steady Rem k x y h g = record { same = λ m n. refl; plain = λ m. nothing }
pointers_steady Add k x y h g = record { same = λ m n. refl; plain = λ m. nothing }
pointers_steady Sub k x y a_number g = record { same = λ m n. refl; plain = λ m. nothing }
pointers_steady Sub k x y a_null g = record { same = λ m n. refl; plain = λ m. nothing }
pointers_steady Shl k x y h g = record { same = λ m n. refl; plain = λ m. nothing }
pointers_steady Shr k x y h g = record { same = λ m n. refl; plain = λ m. nothing }
pointers_steady Less k x y a_number g = record { same = λ m n. refl; plain = λ m. nothing }
pointers_steady Less k x y a_null g = record { same = λ m n. refl; plain = λ m. nothing }
pointers_steady Greater k x y a_number g = record { same = λ m n. refl; plain = λ m. nothing }
pointers_steady Greater k x y a_null g = record { same = λ m n. refl; plain = λ m. nothing }
pointers_steady AtMost k x y a_number g = record { same = λ m n. refl; plain = λ m. nothing }
pointers_steady AtMost k x y a_null g = record { same = λ m n. refl; plain = λ m. nothing }
pointers_steady AtLeast k x y a_number g = record { same = λ m n. refl; plain = λ m. nothing }
pointers_steady AtLeast k x y a_null g = record { same = λ m n. refl; plain = λ m. nothing }
pointers_steady Equal k x y a_number a_number = record { same = λ m n. refl; plain = λ m. a_number }
pointers_steady Equal k x y a_number a_null = record { same = λ m n. refl; plain = λ m. a_number }
pointers_steady Equal k x y a_null a_number = record { same = λ m n. refl; plain = λ m. a_number }
pointers_steady Equal k x y a_null a_null = record { same = λ m n. refl; plain = λ m. a_number }
pointers_steady Unequal k x y a_number a_number = record { same = λ m n. refl; plain = λ m. a_number }
pointers_steady Unequal k x y a_number a_null = record { same = λ m n. refl; plain = λ m. a_number }
pointers_steady Unequal k x y a_null a_number = record { same = λ m n. refl; plain = λ m. a_number }
pointers_steady Unequal k x y a_null a_null = record { same = λ m n. refl; plain = λ m. a_number }
pointers_steady And k x y h g = record { same = λ m n. refl; plain = λ m. nothing }
pointers_steady Xor k x y h g = record { same = λ m n. refl; plain = λ m. nothing }
pointers_steady Or k x y h g = record { same = λ m n. refl; plain = λ m. nothing }

left_steady : SteadyAt true false
left_steady Mul k x y h g = record { same = λ m n. refl; plain = λ m. nothing }
left_steady Div k x y h g = record { same = λ m n. refl; plain = λ m. nothing }
left_steady Rem k x y h g = record { same = λ m n. refl; plain = λ m. nothing }
left_steady Add k x y a_number a_number = record { same = λ m n. refl; plain = λ m. nothing }
left_steady Add k x y a_null a_number = record { same = λ m n. refl; plain = λ m. nothing }
left_steady Add k x y h a_null = record { same = λ m n. refl; plain = λ m. nothing }
left_steady Sub k x y a_number a_number = record { same = λ m n. refl; plain = λ m. nothing }
left_steady Sub k x y a_null a_number = record { same = λ m n. refl; plain = λ m. nothing }
left_steady Sub k x y h a_null = record { same = λ m n. refl; plain = λ m. nothing }
left_steady Shl k x y h g = record { same = λ m n. refl; plain = λ m. nothing }
left_steady Shr k x y h g = record { same = λ m n. refl; plain = λ m. nothing }
left_steady Less k x y h g = record { same = λ m n. refl; plain = λ m. nothing }
left_steady Greater k x y h g = record { same = λ m n. refl; plain = λ m. nothing }
left_steady AtMost k x y h g = record { same = λ m n. refl; plain = λ m. nothing }
left_steady AtLeast k x y h g = record { same = λ m n. refl; plain = λ m. nothing }
left_steady Equal k x y a_number a_number = record { same = λ m n. refl; plain = λ m. a_number }
left_steady Equal k x y a_number a_null = record { same = λ m n. refl; plain = λ m. a_number }
left_steady Equal k x y a_null a_number = record { same = λ m n. refl; plain = λ m. a_number }
left_steady Equal k x y a_null a_null = record { same = λ m n. refl; plain = λ m. a_number }
left_steady Unequal k x y a_number a_number = record { same = λ m n. refl; plain = λ m. a_number }
left_steady Unequal k x y a_number a_null = record { same = λ m n. refl; plain = λ m. a_number }
left_steady Unequal k x y a_null a_number = record { same = λ m n. refl; plain = λ m. a_number }
left_steady Unequal k x y a_null a_null = record { same = λ m n. refl; plain = λ m. a_number }
left_steady And k x y h g = record { same = λ m n. refl; plain = λ m. nothing }
left_steady Xor k x y h g = record { same = λ m n. refl; plain = λ m. nothing }
left_steady Or k x y h g = record { same = λ m n. refl; plain = λ m. nothing }

right_steady : SteadyAt false true
right_steady Mul k x y h g = record { same = λ m n. refl; plain = λ m. nothing }
right_steady Div k x y h g = record { same = λ m n. refl; plain = λ m. nothing }
right_steady Rem k x y h g = record { same = λ m n. refl; plain = λ m. nothing }
right_steady Add k x y a_number a_number = record { same = λ m n. refl; plain = λ m. nothing }
right_steady Add k x y a_number a_null = record { same = λ m n. refl; plain = λ m. nothing }
right_steady Add k x y a_null g = record { same = λ m n. refl; plain = λ m. nothing }
right_steady Sub k x y h g = record { same = λ m n. refl; plain = λ m. nothing }
right_steady Shl k x y h g = record { same = λ m n. refl; plain = λ m. nothing }
right_steady Shr k x y h g = record { same = λ m n. refl; plain = λ m. nothing }
right_steady Less k x y h g = record { same = λ m n. refl; plain = λ m. nothing }
right_steady Greater k x y h g = record { same = λ m n. refl; plain = λ m. nothing }
right_steady AtMost k x y h g = record { same = λ m n. refl; plain = λ m. nothing }
right_steady AtLeast k x y h g = record { same = λ m n. refl; plain = λ m. nothing }
right_steady Equal k x y a_number a_number = record { same = λ m n. refl; plain = λ m. a_number }
right_steady Equal k x y a_number a_null = record { same = λ m n. refl; plain = λ m. a_number }
right_steady Equal k x y a_null a_number = record { same = λ m n. refl; plain = λ m. a_number }
right_steady Equal k x y a_null a_null = record { same = λ m n. refl; plain = λ m. a_number }
right_steady Unequal k x y a_number a_number = record { same = λ m n. refl; plain = λ m. a_number }
right_steady Unequal k x y a_number a_null = record { same = λ m n. refl; plain = λ m. a_number }
right_steady Unequal k x y a_null a_number = record { same = λ m n. refl; plain = λ m. a_number }
right_steady Unequal k x y a_null a_null = record { same = λ m n. refl; plain = λ m. a_number }
right_steady And k x y h g = record { same = λ m n. refl; plain = λ m. nothing }
right_steady Xor k x y h g = record { same = λ m n. refl; plain = λ m. nothing }
right_steady Or k x y h g = record { same = λ m n. refl; plain = λ m. nothing }

steady_at : (p q : Bool) → SteadyAt p q
steady_at true true = pointers_steady
steady_at true false = left_steady
steady_at false true = right_steady
steady_at false false = λ op k x y h g. numbers_steady op k x y

same_binary : (op : BinaryOp) (s t : ExprType) (m n : Memory) (a b : Option Value) → IsPlainValue a → IsPlainValue b → binary_value op s t n a b ≡ binary_value op s t m a b
same_binary op s t m n None b h g = refl
same_binary op s t m n (Some x) None h g = refl
same_binary op s t m n (Some x) (Some y) h g = (steady_at (is_pointer (value_type s)) (is_pointer (value_type t)) op (operand_type op (int_type s) (int_type t)) x y h g).same m n

plain_binary : (op : BinaryOp) (s t : ExprType) (m : Memory) (a b : Option Value) → IsPlainValue a → IsPlainValue b → IsPlainValue (binary_value op s t m a b)
plain_binary op s t m None b h g = nothing
plain_binary op s t m (Some x) None h g = nothing
plain_binary op s t m (Some x) (Some y) h g = (steady_at (is_pointer (value_type s)) (is_pointer (value_type t)) op (operand_type op (int_type s) (int_type t)) x y h g).plain m

module _ (types there : Types) (f : ℕ → ℕ) (s t : State) where
  -- one type and one value, which leads nowhere
  pub record Agree (a b : Meant) : Type 0 where
    pub type_is : b.type ≡ a.type
    pub value_is : b.value t ≡ a.value s
    pub plain : IsPlainValue (a.value s)

  abbrev Steady : Expr → Type 0
  Steady e = is_fixed e ≡ true → Agree (meant types e) (meant there (renamed f e))

  abbrev here_at : Expr-F Expr → Meant
  here_at z = meant_step types (map-Expr Expr Meant (meant types) z)

  abbrev there_at : Expr-F Expr → Meant
  there_at z = meant_step there (map-Expr Expr Meant (meant there) (renamed_layer f (map-Expr Expr Expr (renamed f) z)))

  abbrev fixed_at : Expr-F Expr → Bool
  fixed_at z = fixed_step (map-Expr Expr Bool is_fixed z)

  both_agree : (op : BinaryOp) (a b c d : Meant) → Agree a c → Agree b d → binary_value op c.type d.type t.memory (c.value t) (d.value t) ≡ binary_value op a.type b.type s.memory (a.value s) (b.value s)
  both_agree op a b c d h g =
      ap₂ (λ u v. binary_value op u v t.memory (c.value t) (d.value t)) h.type_is g.type_is
      ∙ (ap₂ (binary_value op a.type b.type t.memory) h.value_is g.value_is
      ∙ same_binary op a.type b.type s.memory t.memory (a.value s) (b.value s) h.plain g.plain)

  layer : (y : ExprParts Steady) → fixed_at (expr_layer Steady y) ≡ true → Agree (here_at (expr_layer Steady y)) (there_at (expr_layer Steady y))
  layer (Expr-F.Constant text k v) i = record { type_is = refl; value_is = refl; plain = a_number }
  layer Expr-F.Null i = record { type_is = refl; value_is = refl; plain = a_null }
  layer Expr-F.Eof i = record { type_is = refl; value_is = refl; plain = a_number }
  layer (Expr-F.Variable x) i = absurd (false≢true i)
  layer (Expr-F.Unary op a) i =
      let h = a.1 i in
      record {
        type_is = ap (λ u. (meant_step types (Expr-F.Unary op (record (meant types a.0) { type = u }))).type) h.type_is;
        value_is = ap₂ (unary_value op) h.type_is h.value_is;
        plain = plain_number _;
      }
  layer (Expr-F.Deref a) i = absurd (false≢true i)
  layer (Expr-F.AddressOf a) i = absurd (false≢true i)
  layer (Expr-F.Binary op a b) i =
      let both = and_parts (is_fixed a.0) (is_fixed b.0) i in
      let h = a.1 both.0 in
      let g = b.1 both.1 in
      record {
        type_is = ap₂ (binary_tree_type op) h.type_is g.type_is;
        value_is = both_agree op (meant types a.0) (meant types b.0) (meant there (renamed f a.0)) (meant there (renamed f b.0)) h g;
        plain = plain_binary op (meant types a.0).type (meant types b.0).type s.memory ((meant types a.0).value s) ((meant types b.0).value s) h.plain g.plain;
      }
  layer (Expr-F.AndAlso a b) i =
      let both = and_parts (is_fixed a.0) (is_fixed b.0) i in
      let h = a.1 both.0 in
      let g = b.1 both.1 in
      record { type_is = refl; value_is = ap₂ and_both h.value_is g.value_is; plain = plain_number _ }
  layer (Expr-F.OrElse a b) i =
      let both = and_parts (is_fixed a.0) (is_fixed b.0) i in
      let h = a.1 both.0 in
      let g = b.1 both.1 in
      record { type_is = refl; value_is = ap₂ or_both h.value_is g.value_is; plain = plain_number _ }
  layer (Expr-F.Choose c a b) i =
      let first = and_parts (is_fixed c.0) (is_fixed a.0 && is_fixed b.0) i in
      let both = and_parts (is_fixed a.0) (is_fixed b.0) first.1 in
      let q = c.1 first.0 in
      let h = a.1 both.0 in
      let g = b.1 both.1 in
      let type_is = ap₂ chosen_type h.type_is g.type_is in
      record {
        type_is = type_is;
        value_is = ap₂ (λ u v. chosen_value u v ((meant there (renamed f a.0)).value t) ((meant there (renamed f b.0)).value t)) type_is q.value_is ∙ ap₂ (chosen_value (chosen_type (meant types a.0).type (meant types b.0).type) ((meant types c.0).value s)) h.value_is g.value_is;
        plain = plain_as (chosen_type (meant types a.0).type (meant types b.0).type) _ (plain_choice ((meant types c.0).value s) ((meant types a.0).value s) ((meant types b.0).value s) h.plain g.plain);
      }
  layer (Expr-F.Cast k a) i =
      let h = a.1 i in
      record { type_is = refl; value_is = ap (option_and_then (as_type (integer k))) h.value_is; plain = plain_as (integer k) ((meant types a.0).value s) h.plain }
  layer (Expr-F.Index a b) i = absurd (false≢true i)
  layer (Expr-F.Member a m) i = absurd (false≢true i)
  layer (Expr-F.Arrow a m) i = absurd (false≢true i)
  layer (Expr-F.Paren a) i = let h = a.1 i in record { type_is = h.type_is; value_is = h.value_is; plain = h.plain }

  rolled : (z : Expr-F Expr) → (fixed_at z ≡ true → Agree (here_at z) (there_at z)) → Steady (roll-Expr z)
  rolled z h i =
      subst (λ a. Agree a (meant there (renamed f (roll-Expr z)))) (sym (fold-roll-Expr Meant (meant_step types) z)) (subst (λ b. Agree (here_at z) b) (sym (fold_renamed Meant (meant_step there) f z)) (h (sym (fold-roll-Expr Bool fixed_step z) ∙ i)))

  pub steady : (e : Expr) → Steady e
  steady = of_every_expr Steady (λ y. rolled (expr_layer Steady y) (layer y))
