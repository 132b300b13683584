-- Turns of the evaluator: what a form gives, by what its parts gave.
use Rattle.std.proofs.Common.{◌≡◌, Bool, true, false, true≢false, IfOk, refl, sym, ap, ap₂, ◌∙◌, subst, Option, Some, None}
use Rattle.std.specs.Prelude.{Result, not, if◌then◌else◌, option_and_then}
use Rattle.c_arith.specs.declared.operators.UnaryOp.{UnaryOp}
use Rattle.c_arith.specs.declared.operators.BinaryOp.{BinaryOp}
use Rattle.c_arith.specs.declared.operators.BinaryOp.TheVariants.{Add}
use Rattle.c_tree.specs.declared.expr.Expr.{Expr}
use Rattle.c_tree.specs.declared.expr.Expr.TheVariants as e
use Rattle.c_tree.specs.declared.program.Program.{Program}
use Rattle.c_language.specs.ConstantEvaluation.{is_zero}
use Rattle.c_language.specs.TreeTypes.{tree_type}
use Rattle.c_language.specs.declared.expr_type.ExprType.{ExprType}
use Rattle.c_meaning.specs.declared.value.Place.{Place}
use Rattle.c_meaning.specs.declared.value.Value.{Value}
use Rattle.c_meaning.specs.Pointers.{designated}
use Rattle.c_meaning.specs.Values.{Meant, State, meant, eval, place, tested, unary_value, binary_value, object_value, chosen_value, as_type}
use Rattle.c_memory.specs.Scenes.{types_of}
use Rattle.c_memory.specs.Truths.{is_met, is_unmet}
use Rattle.c_memory.proofs.ExprForms.{typed, means-Unary, means-Binary, means-Index, means-Choose}

-- what a call gives is the same as another term
pub given_as : {A E : Type 0} (r : Result A E) (x y : A) → x ≡ y → IfOk r (λ o. o ≡ x) → IfOk r (λ o. o ≡ y)
given_as r x y e h = subst (λ z. IfOk r (λ o. o ≡ z)) e h

-- ---- tests

met_by : (b : Bool) (x y : Option Value) → not b ≡ true → (if b then y else x) ≡ x
met_by true x y e = absurd (true≢false (sym e))
met_by false x y e = refl

unmet_by : (b : Bool) (x y : Option Value) → b ≡ true → (if b then y else x) ≡ y
unmet_by true x y e = refl
unmet_by false x y e = absurd (true≢false (sym e))

chosen_met : (c x y : Option Value) → is_met c ≡ true → option_and_then (λ (v : Value). if is_zero (tested v) then y else x) c ≡ x
chosen_met None x y e = absurd (true≢false (sym e))
chosen_met (Some v) x y e = met_by (is_zero (tested v)) x y e

chosen_unmet : (c x y : Option Value) → is_unmet c ≡ true → option_and_then (λ (v : Value). if is_zero (tested v) then y else x) c ≡ y
chosen_unmet None x y e = absurd (true≢false (sym e))
chosen_unmet (Some v) x y e = unmet_by (is_zero (tested v)) x y e

module _ (p : Program) (s : State) where
  abbrev means : Expr → Meant
  means = meant (types_of p)

  abbrev gives : Expr → Option Value
  gives a = eval (types_of p) a s

  -- ---- operators

  abbrev unary_by : UnaryOp → Meant → Option Value
  unary_by op m = unary_value op m.type (m.value s)

  pub unary_turn : (x : Expr) (op : UnaryOp) (a seen other : Expr) (operand : Option Value) → x ≡ e.Unary op a → seen ≡ a → other ≡ a → operand ≡ gives seen
      → unary_value op (tree_type p other) operand ≡ gives x
  unary_turn x op a seen other operand is same again e =
      ap₂ (unary_value op) (ap (tree_type p) again ∙ typed p a) (e ∙ ap gives same) ∙ sym (ap (λ (m : Meant). m.value s) (ap means is ∙ means-Unary p op a))

  both_given : (op : BinaryOp) (a b a1 a2 b1 b2 : Expr) (left right : Option Value) → a1 ≡ a → a2 ≡ a → b1 ≡ b → b2 ≡ b → left ≡ gives a1 → right ≡ gives b2
      → binary_value op (tree_type p a2) (tree_type p b1) s.memory left right ≡ binary_value op (means a).type (means b).type s.memory (gives a) (gives b)
  both_given op a b a1 a2 b1 b2 left right is1 is2 is3 is4 l r =
      ap₂ (λ (t u : ExprType). binary_value op t u s.memory left right) (ap (tree_type p) is2 ∙ typed p a) (ap (tree_type p) is3 ∙ typed p b)
      ∙ ap₂ (λ (x y : Option Value). binary_value op (means a).type (means b).type s.memory x y) (l ∙ ap gives is1) (r ∙ ap gives is4)

  pub binary_turn : (x : Expr) (op : BinaryOp) (a b a1 a2 b1 b2 : Expr) (left right : Option Value) → x ≡ e.Binary op a b → a1 ≡ a → a2 ≡ a → b1 ≡ b → b2 ≡ b
      → left ≡ gives a1 → right ≡ gives b2 → binary_value op (tree_type p a2) (tree_type p b1) s.memory left right ≡ gives x
  binary_turn x op a b a1 a2 b1 b2 left right is is1 is2 is3 is4 l r =
      both_given op a b a1 a2 b1 b2 left right is1 is2 is3 is4 l r ∙ sym (ap (λ (m : Meant). m.value s) (ap means is ∙ means-Binary p op a b))

  -- ---- elements

  pub address_turn : (x a b a1 a2 b1 b2 : Expr) (left right : Option Value) → x ≡ e.Index a b → a1 ≡ a → a2 ≡ a → b1 ≡ b → b2 ≡ b
      → left ≡ gives a1 → right ≡ gives b2 → binary_value Add (tree_type p a2) (tree_type p b1) s.memory left right ≡ (means x).address s
  address_turn x a b a1 a2 b1 b2 left right is is1 is2 is3 is4 l r =
      both_given Add a b a1 a2 b1 b2 left right is1 is2 is3 is4 l r ∙ sym (ap (λ (m : Meant). m.address s) (ap means is ∙ means-Index p a b))

  -- the object of an element is that to which its address points
  element_place : (x a b : Expr) → x ≡ e.Index a b → option_and_then (designated s.memory (tree_type p x)) ((means x).address s) ≡ place (types_of p) x s
  element_place x a b is =
      ap (λ (t : ExprType). option_and_then (designated s.memory t) ((means x).address s)) (typed p x)
      ∙ subst (λ (m : Meant). option_and_then (designated s.memory m.type) (m.address s) ≡ m.place s) (sym (ap means is ∙ means-Index p a b)) refl

  element_value : (x a b : Expr) → x ≡ e.Index a b → option_and_then (object_value (tree_type p x) s.memory) (place (types_of p) x s) ≡ gives x
  element_value x a b is =
      ap (λ (t : ExprType). option_and_then (object_value t s.memory) (place (types_of p) x s)) (typed p x)
      ∙ subst (λ (m : Meant). option_and_then (object_value m.type s.memory) (m.place s) ≡ m.value s) (sym (ap means is ∙ means-Index p a b)) refl

  pub place_turn : (x a b a1 a2 b1 b2 : Expr) (left right pointer : Option Value) → x ≡ e.Index a b → a1 ≡ a → a2 ≡ a → b1 ≡ b → b2 ≡ b
      → left ≡ gives a1 → right ≡ gives b2 → pointer ≡ binary_value Add (tree_type p a2) (tree_type p b1) s.memory left right
      → option_and_then (designated s.memory (tree_type p x)) pointer ≡ place (types_of p) x s
  place_turn x a b a1 a2 b1 b2 left right pointer is is1 is2 is3 is4 l r points =
      ap (option_and_then (designated s.memory (tree_type p x))) (points ∙ address_turn x a b a1 a2 b1 b2 left right is is1 is2 is3 is4 l r) ∙ element_place x a b is

  pub value_turn : (x a b a1 a2 b1 b2 : Expr) (left right pointer : Option Value) (at : Option Place) → x ≡ e.Index a b → a1 ≡ a → a2 ≡ a → b1 ≡ b → b2 ≡ b
      → left ≡ gives a1 → right ≡ gives b2 → pointer ≡ binary_value Add (tree_type p a2) (tree_type p b1) s.memory left right
      → at ≡ option_and_then (designated s.memory (tree_type p x)) pointer → option_and_then (object_value (tree_type p x) s.memory) at ≡ gives x
  value_turn x a b a1 a2 b1 b2 left right pointer at is is1 is2 is3 is4 l r points there =
      ap (option_and_then (object_value (tree_type p x) s.memory)) (there ∙ place_turn x a b a1 a2 b1 b2 left right pointer is is1 is2 is3 is4 l r points)
      ∙ element_value x a b is

  -- ---- choices

  choice : (x c a b : Expr) (given : Option Value) → x ≡ e.Choose c a b → given ≡ option_and_then (λ (v : Value). if is_zero (tested v) then gives b else gives a) (gives c)
      → option_and_then (as_type (tree_type p x)) given ≡ gives x
  choice x c a b given is e =
      ap (option_and_then (as_type (tree_type p x))) e
      ∙ ap (λ (t : ExprType). chosen_value t (gives c) (gives a) (gives b)) (typed p x)
      ∙ subst (λ (m : Meant). chosen_value m.type (gives c) (gives a) (gives b) ≡ m.value s) (sym (ap means is ∙ means-Choose p c a b)) refl

  pub met_turn : (x c a b c1 a1 : Expr) (test given : Option Value) (answer : Bool) → x ≡ e.Choose c a b → c1 ≡ c → a1 ≡ a → test ≡ gives c1 → answer ≡ is_met test → answer ≡ true
      → given ≡ gives a1 → option_and_then (as_type (tree_type p x)) given ≡ gives x
  met_turn x c a b c1 a1 test given answer is is1 is2 t e true_it g =
      choice x c a b given is (g ∙ ap gives is2 ∙ sym (chosen_met (gives c) (gives a) (gives b) (ap is_met (sym (ap gives is1) ∙ sym t) ∙ sym e ∙ true_it)))

  pub unmet_turn : (x c a b c1 b1 : Expr) (test given : Option Value) (answer : Bool) → x ≡ e.Choose c a b → c1 ≡ c → b1 ≡ b → test ≡ gives c1 → answer ≡ is_unmet test → answer ≡ true
      → given ≡ gives b1 → option_and_then (as_type (tree_type p x)) given ≡ gives x
  unmet_turn x c a b c1 b1 test given answer is is1 is2 t e true_it g =
      choice x c a b given is (g ∙ ap gives is2 ∙ sym (chosen_unmet (gives c) (gives a) (gives b) (ap is_unmet (sym (ap gives is1) ∙ sym t) ∙ sym e ∙ true_it)))
