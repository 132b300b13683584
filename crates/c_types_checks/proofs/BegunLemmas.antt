-- The check of an initialiser, by the type of its variable.
use Rattle.std.proofs.Common.{◌≡◌, List, Option, Result, sym, subst}
use Rattle.c_tree.specs.declared.raw.expr.RawExpr.{RawExpr}
use Rattle.c_tree.specs.declared.raw.expr.RawVar.{RawVar}
use Rattle.c_tree.specs.declared.raw.program.RawInit.{RawInit}
use Rattle.c_tree.specs.declared.raw.program.RawInit.TheVariants as init
use Rattle.c_tree.specs.declared.raw.program.RawProgram.{RawProgram}
use Rattle.c_language.specs.DeclaredTypes.{variable_type}
use Rattle.c_language.specs.Phrases.{Stand}
use Rattle.c_language.specs.Scopes.{Scope}
use Rattle.c_language.specs.declared.expr_type.ExprType.{ExprType}
use Rattle.c_language.specs.declared.expr_type.Operand.{Operand}
use Rattle.c_types_base.specs.declared.fault.Fault.{Fault}
use Rattle.c_types_checks.specs.Checking.{Decides, judging, when_given}
use Rattle.c_types_checks.specs.InitialiserChecks.{check_first, check_items, check_begun}

module _ (raw : RawProgram) (scope : Scope) (stand : Stand) (var : RawVar) (t : Option ExprType) (x : Result (Unit {0}) Fault) where
  abbrev HasCheck : RawInit → Type 0
  HasCheck i = t ≡ variable_type raw var i → Decides (check_begun raw scope stand var i) x

  pub begun_one : (i : RawInit) (e : RawExpr) → i ≡ init.One e → t ≡ variable_type raw var i
      → Decides (judging raw scope e (λ (y : Operand). when_given (check_first raw scope stand e y) t)) x → Decides (check_begun raw scope stand var i) x
  begun_one i e is typed h =
      subst HasCheck (sym is) (λ at_one. subst (λ (u : Option ExprType). Decides (judging raw scope e (λ (y : Operand). when_given (check_first raw scope stand e y) u)) x) at_one h) typed

  pub begun_items : (i : RawInit) (es : List RawExpr) → i ≡ init.Items es → t ≡ variable_type raw var i → Decides (check_items raw scope stand es t) x
      → Decides (check_begun raw scope stand var i) x
  begun_items i es is typed h = subst HasCheck (sym is) (λ at_items. subst (λ (u : Option ExprType). Decides (check_items raw scope stand es u) x) at_items h) typed
