-- The expressions of a text name variables that are in scope.
use Rattle.std.proofs.Common.{◌≡◌, ℕ, ◌<◌, List, [], ◌∷◌, Bool, true, false, cond, Option, Some, None, option_map, option_and_then, find, bytes_eq, refl, sym, ap, subst, ◌∙◌, arith}
use Rattle.std.proofs.lemmas.Bool.Decides.{nat_tests}
use Rattle.std.specs.Prelude.{◌&&◌, nat_lt}
use Rattle.c_arith.specs.declared.int_type.IntType.{IntType}
use Rattle.c_arith.specs.declared.operators.UnaryOp.{UnaryOp}
use Rattle.c_arith.specs.declared.operators.BinaryOp.{BinaryOp}
use Rattle.c_tree.specs.declared.expr.Expr.{Expr, fold-roll-Expr}
use Rattle.c_tree.specs.declared.expr.Expr.TheOpen.{Expr-F}
use Rattle.c_tree.specs.declared.expr.Expr.TheVariants as e
use Rattle.c_tree.specs.declared.expr.MemberId.{MemberId}
use Rattle.c_tree.specs.declared.raw.expr.RawExpr.{RawExpr, map-RawExpr, ind-RawExpr, roll-RawExpr, fold-roll-RawExpr}
use Rattle.c_tree.specs.declared.raw.expr.RawExpr.TheOpen.{RawExpr-F}
use Rattle.c_tree.specs.declared.raw.program.RawProgram.{RawProgram}
use Rattle.c_language.specs.Words.{Bytes}
use Rattle.c_language.specs.ConstantEvaluation.{both}
use Rattle.c_language.specs.Scopes.{Entry, Scope, Meaning, found_in, meaning_in}
use Rattle.c_language.specs.ProgramOf.{Told, told_step, told_of, expr_of, variable_number}
use Rattle.c_language.specs.declared.expr_type.ExprType.{ExprType}
use Rattle.c_language.proofs.Options.{none_there, some_same}
use Rattle.dep_model.specs.NamesBelow.{names_step, names_below}

module _ (n : ℕ) where
  pub below-Constant : (text : Bytes) (t : IntType) (v : ℕ) → names_below n (e.Constant text t v) ≡ true
  below-Constant text t v = ap (names_below n) (sym (e.rolls-Constant text t v)) ∙ fold-roll-Expr Bool (names_step n) (Expr-F.Constant text t v)

  pub below-Null : names_below n e.Null ≡ true
  below-Null = ap (names_below n) (sym e.rolls-Null) ∙ fold-roll-Expr Bool (names_step n) Expr-F.Null

  pub below-Eof : names_below n e.Eof ≡ true
  below-Eof = ap (names_below n) (sym e.rolls-Eof) ∙ fold-roll-Expr Bool (names_step n) Expr-F.Eof

  pub below-Variable : (x : ℕ) → names_below n (e.Variable x) ≡ nat_lt x n
  below-Variable x = ap (names_below n) (sym (e.rolls-Variable x)) ∙ fold-roll-Expr Bool (names_step n) (Expr-F.Variable x)

  pub below-Unary : (op : UnaryOp) (a : Expr) → names_below n (e.Unary op a) ≡ names_below n a
  below-Unary op a = ap (names_below n) (sym (e.rolls-Unary op a)) ∙ fold-roll-Expr Bool (names_step n) (Expr-F.Unary op a)

  pub below-Deref : (a : Expr) → names_below n (e.Deref a) ≡ names_below n a
  below-Deref a = ap (names_below n) (sym (e.rolls-Deref a)) ∙ fold-roll-Expr Bool (names_step n) (Expr-F.Deref a)

  pub below-AddressOf : (a : Expr) → names_below n (e.AddressOf a) ≡ names_below n a
  below-AddressOf a = ap (names_below n) (sym (e.rolls-AddressOf a)) ∙ fold-roll-Expr Bool (names_step n) (Expr-F.AddressOf a)

  pub below-Binary : (op : BinaryOp) (a b : Expr) → names_below n (e.Binary op a b) ≡ (names_below n a && names_below n b)
  below-Binary op a b = ap (names_below n) (sym (e.rolls-Binary op a b)) ∙ fold-roll-Expr Bool (names_step n) (Expr-F.Binary op a b)

  pub below-AndAlso : (a b : Expr) → names_below n (e.AndAlso a b) ≡ (names_below n a && names_below n b)
  below-AndAlso a b = ap (names_below n) (sym (e.rolls-AndAlso a b)) ∙ fold-roll-Expr Bool (names_step n) (Expr-F.AndAlso a b)

  pub below-OrElse : (a b : Expr) → names_below n (e.OrElse a b) ≡ (names_below n a && names_below n b)
  below-OrElse a b = ap (names_below n) (sym (e.rolls-OrElse a b)) ∙ fold-roll-Expr Bool (names_step n) (Expr-F.OrElse a b)

  pub below-Choose : (c a b : Expr) → names_below n (e.Choose c a b) ≡ (names_below n c && (names_below n a && names_below n b))
  below-Choose c a b = ap (names_below n) (sym (e.rolls-Choose c a b)) ∙ fold-roll-Expr Bool (names_step n) (Expr-F.Choose c a b)

  pub below-Cast : (t : IntType) (a : Expr) → names_below n (e.Cast t a) ≡ names_below n a
  below-Cast t a = ap (names_below n) (sym (e.rolls-Cast t a)) ∙ fold-roll-Expr Bool (names_step n) (Expr-F.Cast t a)

  pub below-Index : (a i : Expr) → names_below n (e.Index a i) ≡ (names_below n a && names_below n i)
  below-Index a i = ap (names_below n) (sym (e.rolls-Index a i)) ∙ fold-roll-Expr Bool (names_step n) (Expr-F.Index a i)

  pub below-Member : (a : Expr) (m : MemberId) → names_below n (e.Member a m) ≡ names_below n a
  below-Member a m = ap (names_below n) (sym (e.rolls-Member a m)) ∙ fold-roll-Expr Bool (names_step n) (Expr-F.Member a m)

  pub below-Arrow : (a : Expr) (m : MemberId) → names_below n (e.Arrow a m) ≡ names_below n a
  below-Arrow a m = ap (names_below n) (sym (e.rolls-Arrow a m)) ∙ fold-roll-Expr Bool (names_step n) (Expr-F.Arrow a m)

  pub below-Paren : (a : Expr) → names_below n (e.Paren a) ≡ names_below n a
  below-Paren a = ap (names_below n) (sym (e.rolls-Paren a)) ∙ fold-roll-Expr Bool (names_step n) (Expr-F.Paren a)

-- the numbers of the variables in scope are below n
abbrev pub AreBelow : ℕ → Scope → Type 0
AreBelow n scope = (name : Bytes) (id : ℕ) (t : Option ExprType) → meaning_in scope name ≡ Some (Meaning.Variable id t) → id < n

module _ (raw : RawProgram) (scope : Scope) (n : ℕ) (low : AreBelow n scope) where
  -- the names of a tree that is there are below n
  abbrev IsLow : Option Expr → Type 0
  IsLow None = Unit {0}
  IsLow (Some x) = names_below n x ≡ true

  abbrev LowTree : Told → Type 0
  LowTree t = IsLow t.tree

  low_one : (f : Expr → Expr) (o : Option Expr) → IsLow o → ((x : Expr) → names_below n (f x) ≡ names_below n x) → IsLow (option_map f o)
  low_one f None h is = tt
  low_one f (Some x) h is = is x ∙ h

  low_two : (f : Expr → Expr → Expr) (o p : Option Expr) → IsLow o → IsLow p → ((x y : Expr) → names_below n (f x y) ≡ (names_below n x && names_below n y)) → IsLow (both f o p)
  low_two f None p h k is = tt
  low_two f (Some x) None h k is = tt
  low_two f (Some x) (Some y) h k is = is x y ∙ rw (h, k) refl

  low_member : {A : Type 0} (f : Expr → A → Expr) (o : Option Expr) (m : Option A) → IsLow o → ((x : Expr) (y : A) → names_below n (f x y) ≡ names_below n x) → IsLow (option_and_then (λ (x : Expr). option_map (f x) m) o)
  low_member f None m h is = tt
  low_member f (Some x) None h is = tt
  low_member f (Some x) (Some y) h is = is x y ∙ h

  low_choice : (o p q : Option Expr) → IsLow o → IsLow p → IsLow q → IsLow (option_and_then (λ (x : Expr). both (e.Choose x) p q) o)
  low_choice None p q h k m = tt
  low_choice (Some x) None q h k m = tt
  low_choice (Some x) (Some y) None h k m = tt
  low_choice (Some x) (Some y) (Some z) h k m = below-Choose n x y z ∙ rw (h, k, m) refl

  low_name : (m : Option Meaning) → ((id : ℕ) (t : Option ExprType) → m ≡ Some (Meaning.Variable id t) → id < n) → IsLow (option_map e.Variable (variable_number m))
  low_name None h = tt
  low_name (Some Meaning.Function) h = tt
  low_name (Some (Meaning.Variable id t)) h = below-Variable n id ∙ grind (arith, nat_tests, h id t refl)

  abbrev IsLowRaw : RawExpr → Type 0
  IsLowRaw a = LowTree (told_of raw scope a)

  abbrev Below : Type 0
  Below = (a : RawExpr) × IsLowRaw a

  abbrev layer_of : RawExpr-F Below → RawExpr-F RawExpr
  layer_of = map-RawExpr Below RawExpr (λ a. a.0)

  step_low : (y : RawExpr-F Below) → LowTree (told_step raw scope (map-RawExpr RawExpr Told (told_of raw scope) (layer_of y)))
  step_low (RawExpr-F.Constant text) = below-Constant n text _ _
  step_low RawExpr-F.Null = below-Null n
  step_low RawExpr-F.Eof = below-Eof n
  step_low (RawExpr-F.Variable name) = low_name (meaning_in scope name) (low name)
  step_low (RawExpr-F.Unary op a) = low_one (e.Unary op) _ a.1 (below-Unary n op)
  step_low (RawExpr-F.Deref a) = low_one e.Deref _ a.1 (below-Deref n)
  step_low (RawExpr-F.AddressOf a) = low_one e.AddressOf _ a.1 (below-AddressOf n)
  step_low (RawExpr-F.Binary op a b) = low_two (e.Binary op) _ _ a.1 b.1 (below-Binary n op)
  step_low (RawExpr-F.AndAlso a b) = low_two e.AndAlso _ _ a.1 b.1 (below-AndAlso n)
  step_low (RawExpr-F.OrElse a b) = low_two e.OrElse _ _ a.1 b.1 (below-OrElse n)
  step_low (RawExpr-F.Choose c a b) = low_choice _ _ _ c.1 a.1 b.1
  step_low (RawExpr-F.Cast t a) = low_one (e.Cast t) _ a.1 (below-Cast n t)
  step_low (RawExpr-F.Index a i) = low_two e.Index _ _ a.1 i.1 (below-Index n)
  step_low (RawExpr-F.Member a m) = low_member e.Member _ _ a.1 (below-Member n)
  step_low (RawExpr-F.Arrow a m) = low_member e.Arrow _ _ a.1 (below-Arrow n)
  step_low (RawExpr-F.Paren a) = low_one e.Paren _ a.1 (below-Paren n)

  raw_low : (a : RawExpr) → IsLowRaw a
  raw_low =
      ind-RawExpr IsLowRaw (λ x y is. subst (λ z. IsLowRaw (roll-RawExpr z)) is
      (subst LowTree (sym (fold-roll-RawExpr Told (told_step raw scope) (layer_of y))) (step_low y)))

  there : (o : Option Expr) (x : Expr) → IsLow o → o ≡ Some x → names_below n x ≡ true
  there o x h is = subst IsLow is h

  -- The variables that the tree of an expression names are in scope.
  pub expr_below : (a : RawExpr) (x : Expr) → expr_of raw scope a ≡ Some x → names_below n x ≡ true
  expr_below a x is = there (expr_of raw scope a) x (raw_low a) is

-- ---- names in scope

abbrev pub IsLowMeaning : ℕ → Meaning → Type 0
IsLowMeaning n (Meaning.Variable id t) = id < n
IsLowMeaning n Meaning.Function = Unit {0}

-- the variables among declared names have numbers below n
abbrev pub AreLow : ℕ → List Entry → Type 0
AreLow n [] = Unit {0}
AreLow n (e ∷ es) = IsLowMeaning n e.meaning × AreLow n es

low_meaning : (n : ℕ) (m : Meaning) (id : ℕ) (t : Option ExprType) → IsLowMeaning n m → Some m ≡ Some (Meaning.Variable id t) → id < n
low_meaning n m id t h e = subst (IsLowMeaning n) (some_same e) h

found_either : (n : ℕ) (x : Entry) (rest : Option Entry) (b : Bool) (id : ℕ) (t : Option ExprType) → IsLowMeaning n x.meaning → (option_map (λ (y : Entry). y.meaning) rest ≡ Some (Meaning.Variable id t) → id < n)
    → option_map (λ (y : Entry). y.meaning) (cond b (Some x) rest) ≡ Some (Meaning.Variable id t) → id < n
found_either n x rest true id t h k e = low_meaning n x.meaning id t h e
found_either n x rest false id t h k e = k e

found_low : (n : ℕ) (es : List Entry) → AreLow n es → (name : Bytes) (id : ℕ) (t : Option ExprType) → found_in name es ≡ Some (Meaning.Variable id t) → id < n
found_low n [] h name id t e = none_there e
found_low n (x ∷ es) h name id t e = found_either n x (find (λ (y : Entry). bytes_eq name y.name) es) (bytes_eq name x.name) id t h.0 (found_low n es h.1 name id t) e

pub names_low : (n : ℕ) (scope : Scope) → AreLow n scope.names → AreBelow n scope
names_low n scope h name id t e = found_low n scope.names h name id t e
