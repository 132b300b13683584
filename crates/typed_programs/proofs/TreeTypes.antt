-- The type of an expression of a program is that of the operand that it is.
use Rattle.std.proofs.Common.{◌≡◌, ℕ, Bool, true, false, List, [], ◌∷◌, Option, Some, None, option_map, refl, sym, ap, ap₂, subst, ◌∙◌, inl, inr, true≢false}
use Rattle.std.specs.Prelude.{◌&&◌, ◌||◌, ◌==◌, is_some, unwrap_or, option_and_then, if◌then◌else◌, slice_get}
use Rattle.std.specs.Option.{option_or, option_map_or}
use Rattle.std.proofs.lemmas.Bool.{and_parts, or_cases}
use Rattle.std.proofs.lemmas.Option.{slice_get-map}
use Rattle.c_arith.specs.declared.int_type.IntType.{IntType}
use Rattle.c_arith.specs.declared.int_type.IntType.TheVariants.{Int, Long}
use Rattle.c_arith.specs.declared.operators.UnaryOp.{UnaryOp}
use Rattle.c_arith.specs.declared.operators.UnaryOp.TheVariants as unary
use Rattle.c_arith.specs.declared.operators.BinaryOp.{BinaryOp}
use Rattle.c_arith.specs.declared.operators.BinaryOp.TheVariants as binary
use Rattle.c_arith.specs.IntType.{promote, common}
use Rattle.c_arith.specs.Operators.{unary_type, binary_type}
use Rattle.c_tree.specs.declared.expr.Expr.{Expr, roll-Expr, map-Expr, fold-roll-Expr}
use Rattle.c_tree.specs.declared.expr.Expr.TheOpen.{Expr-F}
use Rattle.c_tree.specs.declared.expr.MemberId.{MemberId}
use Rattle.c_tree.specs.declared.program.Member.{Member}
use Rattle.c_tree.specs.declared.program.Program.{Program}
use Rattle.c_tree.specs.declared.program.Var.{Var}
use Rattle.c_tree.proofs.Trees.{expr_layer, of_every_expr}
use Rattle.c_language.specs.ConstantEvaluation.{operand_type, both}
use Rattle.c_language.specs.DeclaredTypes.{integer, pointer_to, void}
use Rattle.c_language.specs.ExprTypes.{a_place, a_value, same_type, value_type, integer_of, target_of, is_void, is_integer, is_pointer, is_object_pointer, given, unary_result, integer_result, are_alike, binary_result, logical_result, chosen_result, choose_result, cast_result, pointed, indexed, address_result, is_scalar, struct_of}
use Rattle.c_language.specs.TreeTypes.{shape_of, type_of_variable, members_of, type_of_member, int_type, pointee, combined, binary_tree_type, chosen_of, chosen_pointer, chosen_type, tree_type_step, tree_type}
use Rattle.c_language.specs.declared.expr_type.Base.{Base}
use Rattle.c_language.specs.declared.expr_type.Base.TheVariants as base
use Rattle.c_language.specs.declared.expr_type.Layer.{Layer}
use Rattle.c_language.specs.declared.expr_type.Layer.TheVariants.{Pointer, Array}
use Rattle.c_language.specs.declared.expr_type.ExprType.{ExprType}
use Rattle.c_language.specs.declared.expr_type.Operand.{Operand}
use Rattle.typed_programs.specs.TreeOperands.{declarations, variable_shape, member_shape, member_within, selected, tree_operand_step, tree_operand}

-- ---- what types are

integer_is_none : (ls : List Layer) (b : Base) → is_integer (record { layers = ls; base = b }) ≡ true → is_pointer (value_type (record { layers = ls; base = b })) ≡ false
integer_is_none [] b h = refl
integer_is_none (l ∷ ls) b h = absurd (true≢false (sym h))

-- an integer is no pointer
no_pointer : (t : ExprType) → is_integer t ≡ true → is_pointer (value_type t) ≡ false
no_pointer t h = integer_is_none t.layers t.base h

from_object : (o : Option ExprType) → is_some (option_and_then (λ (u : ExprType). if is_void u then None else Some u) o) ≡ true → is_some o ≡ true
from_object None h = h
from_object (Some u) h = refl

-- a pointer to an object is a pointer
object_pointer : (t : ExprType) → is_object_pointer t ≡ true → is_pointer t ≡ true
object_pointer t h = from_object (target_of t) h

same_pointer : (ls ms : List Layer) (b c : Base) → same_type (record { layers = ls; base = b }) (record { layers = ms; base = c }) ≡ true
    → is_pointer (record { layers = ls; base = b }) ≡ true → is_pointer (record { layers = ms; base = c }) ≡ true
same_pointer [] ms b c h p = absurd (true≢false (sym p))
same_pointer (Array n ∷ ls) ms b c h p = absurd (true≢false (sym p))
same_pointer (Pointer ∷ ls) [] b c h p = absurd (true≢false (sym h))
same_pointer (Pointer ∷ ls) (Pointer ∷ ms) b c h p = refl
same_pointer (Pointer ∷ ls) (Array n ∷ ms) b c h p = absurd (true≢false (sym h))

-- what has the type of a pointer is one
alike_pointer : (s t : ExprType) → are_alike s t ≡ true → (is_pointer s ≡ true) × (is_pointer t ≡ true)
alike_pointer s t h =
    let k = and_parts (is_object_pointer s) (same_type s t) h in
    let p = object_pointer s k.0 in
    (p, same_pointer s.layers t.layers s.base t.base k.1 p)

there_some : {A : Type 0} (o : Option A) (x : A) → o ≡ Some x → is_some o ≡ true
there_some o x h = ap is_some h

-- ---- operands with a type

-- an operand has the type, and one of a null pointer points to no object
pub record HasType (x : Operand) (t : ExprType) : Type 0 where
  pub shape : t ≡ x.shape
  pub null : x.is_null ≡ true → is_object_pointer (value_type x.shape) ≡ false

abbrev pub HasTypeIf : Option Operand → ExprType → Type 0
HasTypeIf None t = Unit {0}
HasTypeIf (Some x) t = HasType x t

-- what is no null pointer
plain : (x : Operand) (t : ExprType) → x.is_null ≡ false → t ≡ x.shape → HasType x t
plain x t isnt is = record { shape = is; null = λ h. absurd (true≢false (sym h ∙ isnt)) }

-- the types of what there is, as a value or a place
abbrev IsOf : Option ExprType → ExprType → Type 0
IsOf None t = Unit {0}
IsOf (Some u) t = t ≡ u

as_value : (o : Option ExprType) (t : ExprType) → IsOf o t → HasTypeIf (option_map a_value o) t
as_value None t h = tt
as_value (Some u) t h = plain (a_value u) t refl h

as_place : (o : Option ExprType) (t : ExprType) → IsOf o t → HasTypeIf (option_map a_place o) t
as_place None t h = tt
as_place (Some u) t h = plain (a_place u) t refl h

given_of : (b : Bool) (u t : ExprType) → (b ≡ true → t ≡ u) → IsOf (given b u) t
given_of true u t h = h refl
given_of false u t h = tt

either_of : (o q : Option ExprType) (t : ExprType) → IsOf o t → IsOf q t → IsOf (option_or o q) t
either_of None q t h k = k
either_of (Some u) q t h k = h

-- ---- what operators give

unary_of : (op : UnaryOp) (ls : List Layer) (b : Base)
    → IsOf (unary_result op (value_type (record { layers = ls; base = b }))) (integer (unary_type op (promote (int_type (record { layers = ls; base = b })))))
unary_of unary.Not ls b = given_of (is_scalar (value_type (record { layers = ls; base = b }))) (integer Int) _ (λ h. refl)
unary_of unary.Plus [] (base.Integer i) = refl
unary_of unary.Plus [] (base.Struct s) = tt
unary_of unary.Plus [] base.Void = tt
unary_of unary.Plus (Pointer ∷ ls) b = tt
unary_of unary.Plus (Array n ∷ ls) b = tt
unary_of unary.Minus [] (base.Integer i) = refl
unary_of unary.Minus [] (base.Struct s) = tt
unary_of unary.Minus [] base.Void = tt
unary_of unary.Minus (Pointer ∷ ls) b = tt
unary_of unary.Minus (Array n ∷ ls) b = tt
unary_of unary.Flip [] (base.Integer i) = refl
unary_of unary.Flip [] (base.Struct s) = tt
unary_of unary.Flip [] base.Void = tt
unary_of unary.Flip (Pointer ∷ ls) b = tt
unary_of unary.Flip (Array n ∷ ls) b = tt

object_of_target : (o : Option ExprType) → IsOf (option_and_then (λ (u : ExprType). if is_void u then None else Some u) o) (option_map_or (λ (u : ExprType). u) o void)
object_of_target None = tt
object_of_target (Some u) = by_void (is_void u)
  where
    by_void : (b : Bool) → IsOf (if b then None else Some u) u
    by_void true = tt
    by_void false = refl

target_or : (o : Option ExprType) → option_map_or (λ (u : ExprType). u) o void ≡ unwrap_or o void
target_or None = refl
target_or (Some u) = refl

pointed_of : (x : Operand) → IsOf (pointed x) (pointee x.shape)
pointed_of x = subst (IsOf (pointed x)) (target_or (target_of (value_type x.shape))) (object_of_target (target_of (value_type x.shape)))

indexed_of : (o : Option ExprType) (b : Bool) (t : ExprType) → IsOf o t → IsOf (option_and_then (λ (u : ExprType). given b u) o) t
indexed_of None b t h = tt
indexed_of (Some u) b t h = given_of b u t (λ k. h)

integers_of : (op : BinaryOp) (s t : ExprType) (i j : Option IntType) → integer_of s ≡ i → integer_of t ≡ j → (u : ExprType)
    → ((m n : IntType) → integer_of s ≡ Some m → integer_of t ≡ Some n → u ≡ combined op s t) → IsOf (integer_result op s t) u
integers_of op s t None j hi hj u k =
    subst (λ o. IsOf (both (λ (m n : IntType). integer (binary_type op (operand_type op m n))) o (integer_of t)) u) (sym hi) tt
integers_of op s t (Some m) None hi hj u k =
    subst (λ o. IsOf (both (λ (m n : IntType). integer (binary_type op (operand_type op m n))) o (integer_of t)) u) (sym hi)
    (subst (λ o. IsOf (option_map (λ (n : IntType). integer (binary_type op (operand_type op m n))) o) u) (sym hj) tt)
integers_of op s t (Some m) (Some n) hi hj u k =
    subst (λ o. IsOf (both (λ (m n : IntType). integer (binary_type op (operand_type op m n))) o (integer_of t)) u) (sym hi)
    (subst (λ o. IsOf (option_map (λ (n : IntType). integer (binary_type op (operand_type op m n))) o) u) (sym hj)
    (k m n hi hj ∙ ap₂ (λ (a b : Option IntType). integer (binary_type op (operand_type op (unwrap_or a Int) (unwrap_or b Int)))) hi hj))

module _ (s t : ExprType) where
  -- an operator that takes integers alone
  alone : (op : BinaryOp) → IsOf (integer_result op s t) (combined op s t)
  alone op = integers_of op s t (integer_of s) (integer_of t) refl refl (combined op s t) (λ m n hm hn. refl)

  sum_type : (b c : Bool) → is_pointer (value_type s) ≡ b → is_pointer (value_type t) ≡ c
      → binary_tree_type binary.Add s t ≡ (if b then value_type s else (if c then value_type t else combined binary.Add s t))
  sum_type b c h k =
      ap (λ z. if z then value_type s else (if is_pointer (value_type t) then value_type t else combined binary.Add s t)) h
      ∙ ap (λ z. if b then value_type s else (if z then value_type t else combined binary.Add s t)) k

  difference_type : (b c : Bool) → is_pointer (value_type s) ≡ b → is_pointer (value_type t) ≡ c
      → binary_tree_type binary.Sub s t ≡ (if b then (if c then integer Long else value_type s) else combined binary.Sub s t)
  difference_type b c h k =
      ap (λ z. if z then (if is_pointer (value_type t) then integer Long else value_type s) else combined binary.Sub s t) h
      ∙ ap (λ z. if b then (if z then integer Long else value_type s) else combined binary.Sub s t) k

module _ (a b : Operand) where
  abbrev s : ExprType
  s = a.shape

  abbrev t : ExprType
  t = b.shape

  sum_of : IsOf (binary_result binary.Add a b) (binary_tree_type binary.Add s t)
  sum_of =
      either_of _ _ _
      (integers_of binary.Add s t (integer_of s) (integer_of t) refl refl _ (λ m n hm hn. sum_type s t false false (no_pointer s (there_some (integer_of s) m hm)) (no_pointer t (there_some (integer_of t) n hn))))
      (either_of _ _ _
      (given_of (is_object_pointer (value_type s) && is_integer t) (value_type s) _ (λ h.
      let k = and_parts (is_object_pointer (value_type s)) (is_integer t) h in
      sum_type s t true false (object_pointer (value_type s) k.0) (no_pointer t k.1)))
      (given_of (is_object_pointer (value_type t) && is_integer s) (value_type t) _ (λ h.
      let k = and_parts (is_object_pointer (value_type t)) (is_integer s) h in
      sum_type s t false true (no_pointer s k.1) (object_pointer (value_type t) k.0))))

  difference_of : IsOf (binary_result binary.Sub a b) (binary_tree_type binary.Sub s t)
  difference_of =
      either_of _ _ _
      (integers_of binary.Sub s t (integer_of s) (integer_of t) refl refl _ (λ m n hm hn. difference_type s t false false (no_pointer s (there_some (integer_of s) m hm)) (no_pointer t (there_some (integer_of t) n hn))))
      (either_of _ _ _
      (given_of (is_object_pointer (value_type s) && is_integer t) (value_type s) _ (λ h.
      let k = and_parts (is_object_pointer (value_type s)) (is_integer t) h in
      difference_type s t true false (object_pointer (value_type s) k.0) (no_pointer t k.1)))
      (given_of (are_alike (value_type s) (value_type t)) (integer Long) _ (λ h.
      let k = alike_pointer (value_type s) (value_type t) h in
      difference_type s t true true k.0 k.1)))

  binary_of : (op : BinaryOp) → IsOf (binary_result op a b) (binary_tree_type op s t)
  binary_of binary.Add = sum_of
  binary_of binary.Sub = difference_of
  binary_of binary.Less = either_of _ _ _ (alone s t binary.Less) (given_of _ (integer Int) _ (λ h. refl))
  binary_of binary.Greater = either_of _ _ _ (alone s t binary.Greater) (given_of _ (integer Int) _ (λ h. refl))
  binary_of binary.AtMost = either_of _ _ _ (alone s t binary.AtMost) (given_of _ (integer Int) _ (λ h. refl))
  binary_of binary.AtLeast = either_of _ _ _ (alone s t binary.AtLeast) (given_of _ (integer Int) _ (λ h. refl))
  binary_of binary.Equal = either_of _ _ _ (alone s t binary.Equal) (given_of _ (integer Int) _ (λ h. refl))
  binary_of binary.Unequal = either_of _ _ _ (alone s t binary.Unequal) (given_of _ (integer Int) _ (λ h. refl))
  binary_of binary.Mul = alone s t binary.Mul
  binary_of binary.Div = alone s t binary.Div
  binary_of binary.Rem = alone s t binary.Rem
  binary_of binary.Shl = alone s t binary.Shl
  binary_of binary.Shr = alone s t binary.Shr
  binary_of binary.And = alone s t binary.And
  binary_of binary.Xor = alone s t binary.Xor
  binary_of binary.Or = alone s t binary.Or

  -- ---- a choice

  no_integer : (o : Option IntType) (u : ExprType) → integer_of u ≡ o → is_pointer (value_type u) ≡ true → integer_of u ≡ None
  no_integer None u h p = h
  no_integer (Some i) u h p = absurd (true≢false (sym p ∙ no_pointer u (there_some (integer_of u) i h)))

  none_second : (o : Option IntType) (u : ExprType) → chosen_of o None u ≡ u
  none_second None u = refl
  none_second (Some i) u = refl

  common_of : (i j : Option IntType) → integer_of s ≡ i → integer_of t ≡ j → IsOf (both (λ (m n : IntType). integer (common m n)) i j) (chosen_of i j (chosen_pointer (value_type s) (value_type t)))
  common_of None j h k = tt
  common_of (Some m) None h k = tt
  common_of (Some m) (Some n) h k = refl

  left_pointer : is_object_pointer (value_type s) ≡ true → chosen_type s t ≡ value_type s
  left_pointer h =
      ap (λ o. chosen_of o (integer_of t) (chosen_pointer (value_type s) (value_type t))) (no_integer (integer_of s) s refl (object_pointer (value_type s) h))
      ∙ ap (λ z. if z then value_type s else value_type t) h

  right_pointer : is_object_pointer (value_type s) ≡ false → is_object_pointer (value_type t) ≡ true → chosen_type s t ≡ value_type t
  right_pointer isnt h =
      ap (λ o. chosen_of (integer_of s) o (chosen_pointer (value_type s) (value_type t))) (no_integer (integer_of t) t refl (object_pointer (value_type t) h))
      ∙ none_second (integer_of s) (chosen_pointer (value_type s) (value_type t)) ∙ ap (λ z. if z then value_type s else value_type t) isnt

  left_of : (are_alike (value_type s) (value_type t) || (is_object_pointer (value_type s) && b.is_null)) ≡ true → is_object_pointer (value_type s) ≡ true
  left_of h = elim (or_cases (are_alike (value_type s) (value_type t)) (is_object_pointer (value_type s) && b.is_null) h) [
    | inl same ↦ (and_parts (is_object_pointer (value_type s)) (same_type (value_type s) (value_type t)) same).0
    | inr null ↦ (and_parts (is_object_pointer (value_type s)) b.is_null null).0
  ]

  chosen_is : (a.is_null ≡ true → is_object_pointer (value_type s) ≡ false) → IsOf (chosen_result a b) (chosen_type s t)
  chosen_is null =
      either_of _ _ _ (common_of (integer_of s) (integer_of t) refl refl)
      (either_of _ _ _
      (given_of _ (value_type s) _ (λ h. left_pointer (left_of h)))
      (given_of (is_object_pointer (value_type t) && a.is_null) (value_type t) _ (λ h.
      let k = and_parts (is_object_pointer (value_type t)) a.is_null h in
      right_pointer (null k.1) k.0)))

choice_of : (o : Option ExprType) (b : Bool) (t : ExprType) → IsOf o t → IsOf (option_and_then (λ (u : ExprType). given b u) o) t
choice_of None b t h = tt
choice_of (Some u) b t h = given_of b u t (λ k. h)

-- ---- variables and members

variable_of : (o : Option Var) → IsOf (option_map (λ (v : Var). shape_of v.shape) o) (option_map_or (λ (v : Var). shape_of v.shape) o (integer Int))
variable_of None = tt
variable_of (Some v) = refl

member_of : (o : Option Member) → IsOf (option_map (λ (m : Member). shape_of m.shape) o) (option_map_or (λ (m : Member). shape_of m.shape) o (integer Int))
member_of None = tt
member_of (Some m) = refl

module _ (p : Program) where
  within_of : (m : MemberId) (b : Bool) → IsOf (if b then member_shape (declarations p) m else None) (type_of_member p m)
  within_of m true = member_of (slice_get (members_of p m.owner) m.index)
  within_of m false = tt

  selected_of : (m : MemberId) (s : Option ℕ) → IsOf (option_and_then (member_within (declarations p) m) s) (type_of_member p m)
  selected_of m None = tt
  selected_of m (Some s) = within_of m (s == m.owner)

  from_pointed : (m : MemberId) (o : Option ExprType) → IsOf (option_and_then (selected (declarations p) m) o) (type_of_member p m)
  from_pointed m None = tt
  from_pointed m (Some t) = selected_of m (struct_of t)

  -- ---- operands that are there

  one_typed : (f : Option ExprType → Option Operand) (g : Operand → Option ExprType) (k : ExprType → ExprType)
      → ((o : Option ExprType) (t : ExprType) → IsOf o t → HasTypeIf (f o) t) → f None ≡ None
      → ((x : Operand) → (x.is_null ≡ true → is_object_pointer (value_type x.shape) ≡ false) → IsOf (g x) (k x.shape))
      → (o : Option Operand) (t : ExprType) → HasTypeIf o t → HasTypeIf (f (option_and_then g o)) (k t)
  one_typed f g k made none is None t h = subst (λ z. HasTypeIf z (k t)) (sym none) tt
  one_typed f g k made none is (Some x) t h = made (g x) (k t) (subst (λ z. IsOf (g x) (k z)) (sym h.shape) (is x h.null))

  two_typed : (f : Option ExprType → Option Operand) (g : Operand → Operand → Option ExprType) (k : ExprType → ExprType → ExprType)
      → ((o : Option ExprType) (t : ExprType) → IsOf o t → HasTypeIf (f o) t) → f None ≡ None
      → ((x y : Operand) → (x.is_null ≡ true → is_object_pointer (value_type x.shape) ≡ false) → IsOf (g x y) (k x.shape y.shape))
      → (o q : Option Operand) (t u : ExprType) → HasTypeIf o t → HasTypeIf q u → HasTypeIf (f (option_and_then (λ (x : Operand). option_and_then (g x) q) o)) (k t u)
  two_typed f g k made none is None q t u h j = subst (λ z. HasTypeIf z (k t u)) (sym none) tt
  two_typed f g k made none is (Some x) q t u h j =
      subst (λ z. HasTypeIf (f (option_and_then (g x) q)) (k z u)) (sym h.shape)
      (one_typed f (g x) (k x.shape) made none (λ y null. is x y h.null) q u j)

  three_typed : (g : Operand → Operand → Operand → Option ExprType) (k : ExprType → ExprType → ExprType)
      → ((z x y : Operand) → (x.is_null ≡ true → is_object_pointer (value_type x.shape) ≡ false) → IsOf (g z x y) (k x.shape y.shape))
      → (r o q : Option Operand) (t u : ExprType) → HasTypeIf o t → HasTypeIf q u
      → HasTypeIf (option_map a_value (option_and_then (λ (z : Operand). option_and_then (λ (x : Operand). option_and_then (g z x) q) o) r)) (k t u)
  three_typed g k is None o q t u h j = tt
  three_typed g k is (Some z) o q t u h j = two_typed (option_map a_value) (g z) k as_value refl (is z) o q t u h j

  -- ---- each form

  abbrev IsTyped : Expr → Type 0
  IsTyped x = HasTypeIf (tree_operand p x) (tree_type p x)

  abbrev Parts : Type 0
  Parts = Expr-F ((a : Expr) × IsTyped a)

  abbrev layer_of : Parts → Expr-F Expr
  layer_of = expr_layer IsTyped

  layer_typed : (y : Parts) → HasTypeIf (tree_operand_step (declarations p) (map-Expr Expr (Option Operand) (tree_operand p) (layer_of y))) (tree_type_step p (map-Expr Expr ExprType (tree_type p) (layer_of y)))
  layer_typed (Expr-F.Constant text t v) = record { shape = refl; null = λ h. refl }
  layer_typed Expr-F.Null = record { shape = refl; null = λ h. refl }
  layer_typed Expr-F.Eof = plain (a_value (integer Int)) (integer Int) refl refl
  layer_typed (Expr-F.Variable x) = as_place (variable_shape (declarations p) x) (type_of_variable p x)
      (subst (λ o. IsOf o (type_of_variable p x)) (sym (slice_get-map (λ (v : Var). shape_of v.shape) p.vars x)) (variable_of (slice_get p.vars x)))
  layer_typed (Expr-F.Unary op a) =
      one_typed (option_map a_value) (λ (x : Operand). unary_result op (value_type x.shape)) (λ s. integer (unary_type op (promote (int_type s)))) as_value refl
      (λ x null. unary_of op x.shape.layers x.shape.base) (tree_operand p a.0) (tree_type p a.0) a.1
  layer_typed (Expr-F.Deref a) = one_typed (option_map a_place) pointed pointee as_place refl (λ x null. pointed_of x) (tree_operand p a.0) (tree_type p a.0) a.1
  layer_typed (Expr-F.AddressOf a) =
      one_typed (option_map a_value) address_result pointer_to as_value refl (λ x null. given_of _ (pointer_to x.shape) _ (λ h. refl)) (tree_operand p a.0) (tree_type p a.0) a.1
  layer_typed (Expr-F.Binary op a b) =
      two_typed (option_map a_value) (binary_result op) (binary_tree_type op) as_value refl (λ x y null. binary_of x y op)
      (tree_operand p a.0) (tree_operand p b.0) (tree_type p a.0) (tree_type p b.0) a.1 b.1
  layer_typed (Expr-F.AndAlso a b) =
      two_typed (option_map a_value) logical_result (λ s t. integer Int) as_value refl (λ x y null. given_of _ (integer Int) _ (λ h. refl))
      (tree_operand p a.0) (tree_operand p b.0) (tree_type p a.0) (tree_type p b.0) a.1 b.1
  layer_typed (Expr-F.OrElse a b) =
      two_typed (option_map a_value) logical_result (λ s t. integer Int) as_value refl (λ x y null. given_of _ (integer Int) _ (λ h. refl))
      (tree_operand p a.0) (tree_operand p b.0) (tree_type p a.0) (tree_type p b.0) a.1 b.1
  layer_typed (Expr-F.Choose c a b) =
      three_typed choose_result chosen_type (λ z x y null. choice_of (chosen_result x y) _ (chosen_type x.shape y.shape) (chosen_is x y null))
      (tree_operand p c.0) (tree_operand p a.0) (tree_operand p b.0) (tree_type p a.0) (tree_type p b.0) a.1 b.1
  layer_typed (Expr-F.Cast t a) =
      one_typed (option_map a_value) (cast_result t) (λ s. integer t) as_value refl (λ x null. given_of _ (integer t) _ (λ h. refl)) (tree_operand p a.0) (tree_type p a.0) a.1
  layer_typed (Expr-F.Index a i) =
      two_typed (option_map a_place) indexed (λ s t. pointee s) as_place refl (λ x y null. indexed_of (pointed x) (is_integer y.shape) (pointee x.shape) (pointed_of x))
      (tree_operand p a.0) (tree_operand p i.0) (tree_type p a.0) (tree_type p i.0) a.1 i.1
  layer_typed (Expr-F.Member a m) =
      one_typed (option_map a_place) (λ (x : Operand). selected (declarations p) m x.shape) (λ s. type_of_member p m) as_place refl (λ x null. selected_of m (struct_of x.shape))
      (tree_operand p a.0) (tree_type p a.0) a.1
  layer_typed (Expr-F.Arrow a m) =
      one_typed (option_map a_place) (λ (x : Operand). option_and_then (selected (declarations p) m) (pointed x)) (λ s. type_of_member p m) as_place refl (λ x null. from_pointed m (pointed x))
      (tree_operand p a.0) (tree_type p a.0) a.1
  layer_typed (Expr-F.Paren a) = a.1

  pub tree_typed : (x : Expr) → IsTyped x
  tree_typed = of_every_expr IsTyped (λ y.
      subst (λ o. HasTypeIf o (tree_type p (roll-Expr (layer_of y)))) (sym (fold-roll-Expr (Option Operand) (tree_operand_step (declarations p)) (layer_of y)))
      (subst (HasTypeIf (tree_operand_step (declarations p) (map-Expr Expr (Option Operand) (tree_operand p) (layer_of y)))) (sym (fold-roll-Expr ExprType (tree_type_step p) (layer_of y))) (layer_typed y)))

  -- the type of an expression that is an operand is the operand's
  pub type_is : (x : Expr) (o : Operand) → tree_operand p x ≡ Some o → tree_type p x ≡ o.shape
  type_is x o is = let h : HasTypeIf (Some o) (tree_type p x) = subst (λ z. HasTypeIf z (tree_type p x)) is (tree_typed x) in h.shape
