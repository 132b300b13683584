-- The check of an amount, by its parts.
use Rattle.std.proofs.Common.{◌≡◌, Option, Some, None, Result, Ok, Err, refl, sym, subst}
use Rattle.c_tree.specs.declared.raw.expr.RawExpr.{RawExpr}
use Rattle.c_tree.specs.declared.raw.program.RawProgram.{RawProgram}
use Rattle.c_tree.specs.declared.raw.statement.RawSize.{RawSize}
use Rattle.c_tree.specs.declared.raw.statement.RawAmount.{RawAmount}
use Rattle.c_tree.specs.declared.raw.statement.RawAmount.TheVariants as amount
use Rattle.c_language.specs.Scopes.{Scope}
use Rattle.c_language.specs.declared.expr_type.ExprType.{ExprType}
use Rattle.c_types_base.specs.declared.fault.Fault.{Fault}
use Rattle.c_types_checks.specs.AllocationChecks.{check_factor, check_size, check_bytes, check_amount}
use Rattle.c_types_checks.specs.Checking.{Verdict, kept, when_given, then_kept, Decides}

join : (u v w : Verdict) → w ≡ kept → then_kept (then_kept u kept) (then_kept (then_kept v kept) w) ≡ then_kept u v
join (Ok x) (Ok y) w is = is
join (Ok x) (Err n) w is = refl
join (Err n) v w is = refl

module _ (raw : RawProgram) (scope : Scope) (e : RawExpr) (s : RawSize) where
  none_counted : (object : Option ExprType) → when_given (check_bytes raw scope (amount.CountSize e s)) object ≡ kept
  none_counted None = refl
  none_counted (Some t) = refl

  none_sized : (object : Option ExprType) → when_given (check_bytes raw scope (amount.SizeCount s e)) object ≡ kept
  none_sized None = refl
  none_sized (Some t) = refl

  module _ (object : Option ExprType) (x : Result (Unit {0}) Fault) (n : RawAmount) (h : Decides (then_kept (check_factor raw scope e) (check_size raw scope object s)) x) where
    pub count_size : n ≡ amount.CountSize e s → Decides (check_amount raw scope n object) x
    count_size is =
        subst (λ (m : RawAmount). Decides (check_amount raw scope m object) x) (sym is)
        (subst (λ (v : Verdict). Decides v x) (sym (join (check_factor raw scope e) (check_size raw scope object s) _ (none_counted object))) h)

    pub size_count : n ≡ amount.SizeCount s e → Decides (check_amount raw scope n object) x
    size_count is =
        subst (λ (m : RawAmount). Decides (check_amount raw scope m object) x) (sym is)
        (subst (λ (v : Verdict). Decides v x) (sym (join (check_factor raw scope e) (check_size raw scope object s) _ (none_sized object))) h)

pub count_alone : (raw : RawProgram) (scope : Scope) (e : RawExpr) (object : Option ExprType) (x : Result (Unit {0}) Fault) (n : RawAmount) → n ≡ amount.Count e
    → check_factor raw scope e ≡ kept
    → ((raw : RawProgram) (scope : Scope) (count : RawExpr) → Decides (when_given (check_bytes raw scope (amount.Count count)) object) x) → Decides (check_amount raw scope n object) x
count_alone raw scope e object x n is factor h =
    subst (λ (m : RawAmount). Decides (check_amount raw scope m object) x) (sym is)
    (subst (λ (v : Verdict). Decides (then_kept (then_kept v kept) (when_given (check_bytes raw scope (amount.Count e)) object)) x) (sym factor) (h raw scope e))
