-- The variables that the tree of an expression names are those that its names stand for.
use Rattle.std.proofs.Common.{◌≡◌, ℕ, [], ◌∷◌, Bool, true, ◌||◌, Some, sym, ap, ◌∙◌, subst}
use Rattle.std.specs.Prelude.{Contains}
use Rattle.std.proofs.lemmas.Bool.{eqb-true}
use Rattle.c_tree.specs.declared.expr.Expr.{Expr, roll-Expr, map-Expr, fold-roll-Expr}
use Rattle.c_tree.specs.declared.expr.Expr.TheOpen.{Expr-F}
use Rattle.c_tree.specs.declared.expr.Expr.TheVariants as e
use Rattle.c_tree.specs.declared.raw.expr.RawExpr.{RawExpr, map-RawExpr, fold-roll-RawExpr}
use Rattle.c_tree.specs.declared.raw.expr.RawExpr.TheOpen.{RawExpr-F}
use Rattle.c_tree.specs.declared.raw.program.RawProgram.{RawProgram}
use Rattle.c_language.specs.Words.{Bytes}
use Rattle.c_language.specs.Scopes.{Scope, meaning_in}
use Rattle.c_language.specs.Uses.{operands_of}
use Rattle.c_language.specs.ProgramOf.{Told, told_step, told_of, expr_of, variable_number, of_operand, of_pointed}
use Rattle.c_language.proofs.Options.{some_same, map_there, then_there, both_there}
use Rattle.c_language.proofs.Tests.{false_true, by_or}
use Rattle.c_language.proofs.Lists.{contains_first, contains_later}
use Rattle.c_language.specs.Names.{names_step, names}
use Rattle.c_scope_laws.proofs.Trees.{by_operands}

-- ---- the variables of an expression

module _ (raw : RawProgram) (scope : Scope) (R : ℕ → Type 0) (vars : (x : Bytes) (id : ℕ) → variable_number (meaning_in scope x) ≡ Some id → R id) where
  abbrev Reaches : RawExpr → Type 0
  Reaches a = (w : Expr) → expr_of raw scope a ≡ Some w → (id : ℕ) → names w id ≡ true → R id

  names_at : (l : Expr-F Expr) (w : Expr) (id : ℕ) → roll-Expr l ≡ w → names w id ≡ true → names_step (map-Expr Expr (ℕ → Bool) names l) id ≡ true
  names_at l w id h q = sym (ap (λ (z : Expr). names z id) (sym h) ∙ ap (λ (f : ℕ → Bool). f id) (fold-roll-Expr (ℕ → Bool) names_step l)) ∙ q

  abbrev All : RawExpr-F RawExpr → Type 0
  All l = (m : RawExpr) → Contains (operands_of l) m → Reaches m

  layer : (l : RawExpr-F RawExpr) → All l → (w : Expr) → (told_step raw scope (map-RawExpr RawExpr Told (told_of raw scope) l)).tree ≡ Some w → (id : ℕ) → names w id ≡ true → R id
  layer (RawExpr-F.Constant text) ops w at id h = false_true (names_at (Expr-F.Constant text _ _) w id (e.rolls-Constant text _ _ ∙ some_same at) h)
  layer RawExpr-F.Null ops w at id h = false_true (names_at Expr-F.Null w id (e.rolls-Null ∙ some_same at) h)
  layer RawExpr-F.Eof ops w at id h = false_true (names_at Expr-F.Eof w id (e.rolls-Eof ∙ some_same at) h)
  layer (RawExpr-F.Variable x) ops w at id h =
      let m = map_there e.Variable (variable_number (meaning_in scope x)) w at in
      subst R (eqb-true m.value id (names_at (Expr-F.Variable m.value) w id (e.rolls-Variable m.value ∙ m.same) h)) (vars x m.value m.there)
  layer (RawExpr-F.Unary op a) ops w at id h =
      let m = map_there (e.Unary op) (expr_of raw scope a) w at in ops a (contains_first a []) m.value m.there id (names_at (Expr-F.Unary op m.value) w id (e.rolls-Unary op m.value ∙ m.same) h)
  layer (RawExpr-F.Deref a) ops w at id h =
      let m = map_there e.Deref (expr_of raw scope a) w at in ops a (contains_first a []) m.value m.there id (names_at (Expr-F.Deref m.value) w id (e.rolls-Deref m.value ∙ m.same) h)
  layer (RawExpr-F.AddressOf a) ops w at id h =
      let m = map_there e.AddressOf (expr_of raw scope a) w at in ops a (contains_first a []) m.value m.there id (names_at (Expr-F.AddressOf m.value) w id (e.rolls-AddressOf m.value ∙ m.same) h)
  layer (RawExpr-F.Binary op a b) ops w at id h =
      let m = both_there (e.Binary op) (expr_of raw scope a) (expr_of raw scope b) w at in
      by_or (names m.left id) (names m.right id) (names_at (Expr-F.Binary op m.left m.right) w id (e.rolls-Binary op m.left m.right ∙ m.same) h)
      (λ p. ops a (contains_first a (b ∷ [])) m.left m.left_there id p) (λ p. ops b (contains_later a b (b ∷ []) (contains_first b [])) m.right m.right_there id p)
  layer (RawExpr-F.AndAlso a b) ops w at id h =
      let m = both_there e.AndAlso (expr_of raw scope a) (expr_of raw scope b) w at in
      by_or (names m.left id) (names m.right id) (names_at (Expr-F.AndAlso m.left m.right) w id (e.rolls-AndAlso m.left m.right ∙ m.same) h)
      (λ p. ops a (contains_first a (b ∷ [])) m.left m.left_there id p) (λ p. ops b (contains_later a b (b ∷ []) (contains_first b [])) m.right m.right_there id p)
  layer (RawExpr-F.OrElse a b) ops w at id h =
      let m = both_there e.OrElse (expr_of raw scope a) (expr_of raw scope b) w at in
      by_or (names m.left id) (names m.right id) (names_at (Expr-F.OrElse m.left m.right) w id (e.rolls-OrElse m.left m.right ∙ m.same) h)
      (λ p. ops a (contains_first a (b ∷ [])) m.left m.left_there id p) (λ p. ops b (contains_later a b (b ∷ []) (contains_first b [])) m.right m.right_there id p)
  layer (RawExpr-F.Choose c a b) ops w at id h =
      let o = then_there _ (expr_of raw scope c) w at in
      let m = both_there (e.Choose o.value) (expr_of raw scope a) (expr_of raw scope b) w o.same in
      by_or (names o.value id) (names m.left id || names m.right id) (names_at (Expr-F.Choose o.value m.left m.right) w id (e.rolls-Choose o.value m.left m.right ∙ m.same) h)
      (λ p. ops c (contains_first c (a ∷ (b ∷ []))) o.value o.there id p)
      (λ p. by_or (names m.left id) (names m.right id) p
      (λ q. ops a (contains_later c a (a ∷ (b ∷ [])) (contains_first a (b ∷ []))) m.left m.left_there id q) (λ q. ops b (contains_later c b (a ∷ (b ∷ [])) (contains_later a b (b ∷ []) (contains_first b []))) m.right m.right_there id q))
  layer (RawExpr-F.Cast z a) ops w at id h =
      let m = map_there (e.Cast z) (expr_of raw scope a) w at in ops a (contains_first a []) m.value m.there id (names_at (Expr-F.Cast z m.value) w id (e.rolls-Cast z m.value ∙ m.same) h)
  layer (RawExpr-F.Index a b) ops w at id h =
      let m = both_there e.Index (expr_of raw scope a) (expr_of raw scope b) w at in
      by_or (names m.left id) (names m.right id) (names_at (Expr-F.Index m.left m.right) w id (e.rolls-Index m.left m.right ∙ m.same) h)
      (λ p. ops a (contains_first a (b ∷ [])) m.left m.left_there id p) (λ p. ops b (contains_later a b (b ∷ []) (contains_first b [])) m.right m.right_there id p)
  layer (RawExpr-F.Member a f) ops w at id h =
      let o = then_there _ (expr_of raw scope a) w at in
      let m = map_there (e.Member o.value) (of_operand raw f (told_of raw scope a).operand) w o.same in
      ops a (contains_first a []) o.value o.there id (names_at (Expr-F.Member o.value m.value) w id (e.rolls-Member o.value m.value ∙ m.same) h)
  layer (RawExpr-F.Arrow a f) ops w at id h =
      let o = then_there _ (expr_of raw scope a) w at in
      let m = map_there (e.Arrow o.value) (of_pointed raw f (told_of raw scope a).operand) w o.same in
      ops a (contains_first a []) o.value o.there id (names_at (Expr-F.Arrow o.value m.value) w id (e.rolls-Arrow o.value m.value ∙ m.same) h)
  layer (RawExpr-F.Paren a) ops w at id h =
      let m = map_there e.Paren (expr_of raw scope a) w at in ops a (contains_first a []) m.value m.there id (names_at (Expr-F.Paren m.value) w id (e.rolls-Paren m.value ∙ m.same) h)

  pub expr_reaches : (a : RawExpr) → Reaches a
  expr_reaches = by_operands Reaches (λ l ops w at id h. layer l ops w (sym (ap (λ (u : Told). u.tree) (fold-roll-RawExpr Told (told_step raw scope) l)) ∙ at) id h)
