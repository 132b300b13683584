-- The variables that the tree of an expression names are those that its names stand for.
use Rattle.std.proofs.Common.{◌≡◌, ℕ, zero, suc, ◌==◌, [], ◌∷◌, Bool, true, Option, Some, None, option_map, option_and_then, refl, sym, ap, subst, ◌∙◌, arith}
use Rattle.std.specs.Prelude.{Contains}
use Rattle.std.proofs.lemmas.Bool.{or_left, or_right, eq-eqb}
use Rattle.c_language.proofs.LayerForms.{expr_of-Variable}
use Rattle.c_arith.specs.declared.int_type.IntType.{IntType}
use Rattle.c_arith.specs.declared.operators.UnaryOp.{UnaryOp}
use Rattle.c_tree.specs.declared.expr.Expr.{Expr, fold-roll-Expr}
use Rattle.c_tree.specs.declared.expr.Expr.TheOpen.{Expr-F}
use Rattle.c_tree.specs.declared.expr.Expr.TheVariants as e
use Rattle.c_tree.specs.declared.expr.MemberId.{MemberId}
use Rattle.c_tree.specs.declared.raw.expr.RawExpr.{RawExpr, out-RawExpr, map-RawExpr, fold-roll-RawExpr}
use Rattle.c_tree.specs.declared.raw.expr.RawExpr.TheOpen.{RawExpr-F}
use Rattle.c_tree.specs.declared.raw.expr.RawExpr.TheViews.{roll-out-RawExpr}
use Rattle.c_tree.specs.declared.raw.program.RawProgram.{RawProgram}
use Rattle.c_language.specs.Words.{Bytes}
use Rattle.c_language.specs.ConstantEvaluation.{both}
use Rattle.c_language.specs.Scopes.{Scope, Meaning, Entry, meaning_in}
use Rattle.c_language.specs.Uses.{operands_of, whole, deeper}
use Rattle.c_language.specs.ProgramOf.{Told, told_step, told_of, expr_of, variable_number, of_operand, of_pointed}
use Rattle.c_language.proofs.Options.{none_there, some_same}
use Rattle.c_scope_laws.specs.Agreement.{NamedIn}
use Rattle.projection.specs.Kept.{Kept}
use Rattle.c_scope_laws.specs.Thinning.{name_stays, found, EntryStays}
use Rattle.c_language.specs.Names.{names_step, names}
use Rattle.named_variables.proofs.NameForms.{names-Binary, names-AndAlso, names-OrElse, names-Choose, names-Index}
use Rattle.c_scope_laws.proofs.Trees.{in_none, in_one}

-- a name of the text stands for a variable that the tree names
pub record IsNamedBy (scope : Scope) (x : Bytes) (a : Expr) : Type 0 where
  pub id : ℕ
  pub stands : variable_number (meaning_in scope x) ≡ Some id
  pub named : names a id ≡ true

names-Unary : (op : UnaryOp) (a : Expr) (x : ℕ) → names (e.Unary op a) x ≡ names a x
names-Unary op a x = ap (λ (t : Expr). names t x) (sym (e.rolls-Unary op a)) ∙ ap (λ (t : ℕ → Bool). t x) (fold-roll-Expr (ℕ → Bool) names_step (Expr-F.Unary op a))

names-Deref : (a : Expr) (x : ℕ) → names (e.Deref a) x ≡ names a x
names-Deref a x = ap (λ (t : Expr). names t x) (sym (e.rolls-Deref a)) ∙ ap (λ (t : ℕ → Bool). t x) (fold-roll-Expr (ℕ → Bool) names_step (Expr-F.Deref a))

names-AddressOf : (a : Expr) (x : ℕ) → names (e.AddressOf a) x ≡ names a x
names-AddressOf a x = ap (λ (t : Expr). names t x) (sym (e.rolls-AddressOf a)) ∙ ap (λ (t : ℕ → Bool). t x) (fold-roll-Expr (ℕ → Bool) names_step (Expr-F.AddressOf a))

names-Cast : (t : IntType) (a : Expr) (x : ℕ) → names (e.Cast t a) x ≡ names a x
names-Cast t a x = ap (λ (t : Expr). names t x) (sym (e.rolls-Cast t a)) ∙ ap (λ (t : ℕ → Bool). t x) (fold-roll-Expr (ℕ → Bool) names_step (Expr-F.Cast t a))

names-Member : (a : Expr) (m : MemberId) (x : ℕ) → names (e.Member a m) x ≡ names a x
names-Member a m x = ap (λ (t : Expr). names t x) (sym (e.rolls-Member a m)) ∙ ap (λ (t : ℕ → Bool). t x) (fold-roll-Expr (ℕ → Bool) names_step (Expr-F.Member a m))

names-Arrow : (a : Expr) (m : MemberId) (x : ℕ) → names (e.Arrow a m) x ≡ names a x
names-Arrow a m x = ap (λ (t : Expr). names t x) (sym (e.rolls-Arrow a m)) ∙ ap (λ (t : ℕ → Bool). t x) (fold-roll-Expr (ℕ → Bool) names_step (Expr-F.Arrow a m))

names-Paren : (a : Expr) (x : ℕ) → names (e.Paren a) x ≡ names a x
names-Paren a x = ap (λ (t : Expr). names t x) (sym (e.rolls-Paren a)) ∙ ap (λ (t : ℕ → Bool). t x) (fold-roll-Expr (ℕ → Bool) names_step (Expr-F.Paren a))

names-Variable : (y : ℕ) (x : ℕ) → names (e.Variable y) x ≡ (y == x)
names-Variable y x = ap (λ (t : Expr). names t x) (sym (e.rolls-Variable y)) ∙ ap (λ (t : ℕ → Bool). t x) (fold-roll-Expr (ℕ → Bool) names_step (Expr-F.Variable y))

-- the tree of a part, whose names the whole tree names
record Part (o : Option Expr) (whole : Expr) : Type 0 where
  pub tree : Expr
  pub there : o ≡ Some tree
  pub names_too : (x : ℕ) → names tree x ≡ true → names whole x ≡ true

part_of : {o : Option Expr} {a w t : Expr} → o ≡ Some t → a ≡ w → ((x : ℕ) → names t x ≡ true → names a x ≡ true) → Part o w
part_of {o} {a} {w} {t} p q h = record { tree = t; there = p; names_too = λ x n. ap (λ (u : Expr). names u x) (sym q) ∙ h x n }

of_one : (form : Expr → Expr) → ((t : Expr) (x : ℕ) → names t x ≡ true → names (form t) x ≡ true) → (o : Option Expr) (w : Expr) → option_map form o ≡ Some w → Part o w
of_one form h None w at = none_there at
of_one form h (Some t) w at = part_of refl (some_same at) (h t)

of_left : (form : Expr → Expr → Expr) → ((t u : Expr) (x : ℕ) → names t x ≡ true → names (form t u) x ≡ true) → (o q : Option Expr) (w : Expr) → both form o q ≡ Some w → Part o w
of_left form h None q w at = none_there at
of_left form h (Some t) None w at = none_there at
of_left form h (Some t) (Some u) w at = part_of refl (some_same at) (h t u)

of_right : (form : Expr → Expr → Expr) → ((t u : Expr) (x : ℕ) → names u x ≡ true → names (form t u) x ≡ true) → (o q : Option Expr) (w : Expr) → both form o q ≡ Some w → Part q w
of_right form h None q w at = none_there at
of_right form h (Some t) None w at = none_there at
of_right form h (Some t) (Some u) w at = part_of refl (some_same at) (h t u)

of_member : (form : Expr → MemberId → Expr) → ((t : Expr) (m : MemberId) (x : ℕ) → names t x ≡ true → names (form t m) x ≡ true) → (o : Option Expr) (m : Option MemberId) (w : Expr)
    → option_and_then (λ (x : Expr). option_map (form x) m) o ≡ Some w → Part o w
of_member form h None m w at = none_there at
of_member form h (Some t) None w at = none_there at
of_member form h (Some t) (Some m) w at = part_of refl (some_same at) (h t m)

-- the three parts of a choice
record Three (c a b : Option Expr) (w : Expr) : Type 0 where
  pub first : Part c w
  pub second : Part a w
  pub third : Part b w

of_choose : (c a b : Option Expr) (w : Expr) → option_and_then (λ (x : Expr). both (e.Choose x) a b) c ≡ Some w → Three c a b w
of_choose None a b w at = none_there at
of_choose (Some t) None b w at = none_there at
of_choose (Some t) (Some u) None w at = none_there at
of_choose (Some t) (Some u) (Some v) w at = record {
  first = part_of refl (some_same at) (λ x n. names-Choose t u v x ∙ or_left (names t x) _ n);
  second = part_of refl (some_same at) (λ x n. names-Choose t u v x ∙ or_right (names t x) _ (or_left (names u x) _ n));
  third = part_of refl (some_same at) (λ x n. names-Choose t u v x ∙ or_right (names t x) _ (or_right (names u x) _ n));
}

pick_two : {a b : RawExpr} (P : RawExpr → Type 0) → P a → P b → (m : RawExpr) → Contains (a ∷ (b ∷ [])) m → P m
pick_two P p q m (zero, within, is) = subst P is p
pick_two {a} {b} P p q m (suc i, within, is) = subst P (in_one b m (i, omega (arith, within), is)) q

pick_three : {a b c : RawExpr} (P : RawExpr → Type 0) → P a → P b → P c → (m : RawExpr) → Contains (a ∷ (b ∷ (c ∷ []))) m → P m
pick_three P p q r m (zero, within, is) = subst P is p
pick_three P p q r m (suc i, within, is) = pick_two P q r m (i, omega (arith, within), is)

module _ (raw : RawProgram) (scope : Scope) where
  pick_one : {a : RawExpr} {w : Expr} → Part (expr_of raw scope a) w → (m : RawExpr) → Contains (a ∷ []) m → Part (expr_of raw scope m) w
  pick_one {a} {w} p m c = subst (λ (b : RawExpr). Part (expr_of raw scope b) w) (in_one a m c) p

  -- each operand of a layer that has a tree has one
  operand_part : (l : RawExpr-F RawExpr) (w : Expr) → (told_step raw scope (map-RawExpr RawExpr Told (told_of raw scope) l)).tree ≡ Some w → (m : RawExpr) → Contains (operands_of l) m → Part (expr_of raw scope m) w
  operand_part (RawExpr-F.Constant text) w at m c = in_none m c
  operand_part RawExpr-F.Null w at m c = in_none m c
  operand_part RawExpr-F.Eof w at m c = in_none m c
  operand_part (RawExpr-F.Variable x) w at m c = in_none m c
  operand_part (RawExpr-F.Unary op a) w at m c = pick_one (of_one (e.Unary op) (λ t x n. names-Unary op t x ∙ n) (expr_of raw scope a) w at) m c
  operand_part (RawExpr-F.Deref a) w at m c = pick_one (of_one e.Deref (λ t x n. names-Deref t x ∙ n) (expr_of raw scope a) w at) m c
  operand_part (RawExpr-F.AddressOf a) w at m c = pick_one (of_one e.AddressOf (λ t x n. names-AddressOf t x ∙ n) (expr_of raw scope a) w at) m c
  operand_part (RawExpr-F.Binary op a b) w at m c =
      pick_two (λ (u : RawExpr). Part (expr_of raw scope u) w) (of_left (e.Binary op) (λ t u x n. names-Binary op t u x ∙ or_left (names t x) _ n) (expr_of raw scope a) (expr_of raw scope b) w at)
      (of_right (e.Binary op) (λ t u x n. names-Binary op t u x ∙ or_right (names t x) _ n) (expr_of raw scope a) (expr_of raw scope b) w at) m c
  operand_part (RawExpr-F.AndAlso a b) w at m c =
      pick_two (λ (u : RawExpr). Part (expr_of raw scope u) w) (of_left e.AndAlso (λ t u x n. names-AndAlso t u x ∙ or_left (names t x) _ n) (expr_of raw scope a) (expr_of raw scope b) w at)
      (of_right e.AndAlso (λ t u x n. names-AndAlso t u x ∙ or_right (names t x) _ n) (expr_of raw scope a) (expr_of raw scope b) w at) m c
  operand_part (RawExpr-F.OrElse a b) w at m c =
      pick_two (λ (u : RawExpr). Part (expr_of raw scope u) w) (of_left e.OrElse (λ t u x n. names-OrElse t u x ∙ or_left (names t x) _ n) (expr_of raw scope a) (expr_of raw scope b) w at)
      (of_right e.OrElse (λ t u x n. names-OrElse t u x ∙ or_right (names t x) _ n) (expr_of raw scope a) (expr_of raw scope b) w at) m c
  operand_part (RawExpr-F.Choose d a b) w at m c =
      let h = of_choose (expr_of raw scope d) (expr_of raw scope a) (expr_of raw scope b) w at in pick_three (λ (u : RawExpr). Part (expr_of raw scope u) w) h.first h.second h.third m c
  operand_part (RawExpr-F.Cast t a) w at m c = pick_one (of_one (e.Cast t) (λ u x n. names-Cast t u x ∙ n) (expr_of raw scope a) w at) m c
  operand_part (RawExpr-F.Index a i) w at m c =
      pick_two (λ (u : RawExpr). Part (expr_of raw scope u) w) (of_left e.Index (λ t u x n. names-Index t u x ∙ or_left (names t x) _ n) (expr_of raw scope a) (expr_of raw scope i) w at)
      (of_right e.Index (λ t u x n. names-Index t u x ∙ or_right (names t x) _ n) (expr_of raw scope a) (expr_of raw scope i) w at) m c
  operand_part (RawExpr-F.Member a f) w at m c = pick_one (of_member e.Member (λ t i x n. names-Member t i x ∙ n) (expr_of raw scope a) (of_operand raw f (told_of raw scope a).operand) w at) m c
  operand_part (RawExpr-F.Arrow a f) w at m c = pick_one (of_member e.Arrow (λ t i x n. names-Arrow t i x ∙ n) (expr_of raw scope a) (of_pointed raw f (told_of raw scope a).operand) w at) m c
  operand_part (RawExpr-F.Paren a) w at m c = pick_one (of_one e.Paren (λ t x n. names-Paren t x ∙ n) (expr_of raw scope a) w at) m c

  tree_of_layer : (a : RawExpr) → expr_of raw scope a ≡ (told_step raw scope (map-RawExpr RawExpr Told (told_of raw scope) (out-RawExpr a))).tree
  tree_of_layer a = ap (expr_of raw scope) (sym (roll-out-RawExpr a)) ∙ ap (λ (t : Told). t.tree) (fold-roll-RawExpr Told (told_step raw scope) (out-RawExpr a))

  by_number : (x : Bytes) (o : Option ℕ) → variable_number (meaning_in scope x) ≡ o → (w : Expr) → option_map e.Variable o ≡ Some w → IsNamedBy scope x w
  by_number x None p w at = none_there at
  by_number x (Some n) p w at = record { id = n; stands = p; named = ap (λ (u : Expr). names u n) (sym (some_same at)) ∙ names-Variable n n ∙ eq-eqb n n refl }

  -- each name of an expression that has a tree stands for a variable that the tree names
  pub named_by : {a : RawExpr} (x : Bytes) → NamedIn a x → (w : Expr) → expr_of raw scope a ≡ Some w → IsNamedBy scope x w
  named_by x whole w at = by_number x (variable_number (meaning_in scope x)) refl w (sym (expr_of-Variable raw scope x) ∙ at)
  named_by {a} x (deeper {middle = m} c n) w at =
      let p = operand_part (out-RawExpr a) w (sym (tree_of_layer a) ∙ at) m c in
      let h = named_by x n p.tree p.there in
      record { id = h.id; stands = h.stands; named = p.names_too h.id h.named }

-- what the tree of an expression names is kept, so that what the expression names is
pub kept_by_tree : (k : Kept Bytes) (raw : RawProgram) (scope : Scope) (a : RawExpr) (w : Expr) → expr_of raw scope a ≡ Some w → ((id : ℕ) → names w id ≡ true → k.variable id ≡ true) → (x : Bytes) → NamedIn a x → EntryStays k (found x scope.names)
kept_by_tree k raw scope a w at stay x n =
    let h = named_by raw scope x n w at in by_found (found x scope.names) refl h.id h.stands (stay h.id h.named)
  where
    by_meaning : (y : Bytes) (m : Meaning) (id : ℕ) → variable_number (Some m) ≡ Some id → k.variable id ≡ true → name_stays k y m ≡ true
    by_meaning y (Meaning.Variable n t) id p q = ap k.variable (some_same p) ∙ q
    by_meaning y Meaning.Function id p q = none_there p

    by_found : (o : Option Entry) → found x scope.names ≡ o → (id : ℕ) → variable_number (meaning_in scope x) ≡ Some id → k.variable id ≡ true → EntryStays k o
    by_found None p id q s = tt
    by_found (Some entry) p id q s = by_meaning entry.name entry.meaning id (sym (ap (λ (o : Option Entry). variable_number (option_map (λ (y : Entry). y.meaning) o)) p) ∙ q) s
