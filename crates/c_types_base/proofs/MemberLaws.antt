-- A selection of a member is judged by its struct type.
use Rattle.std.proofs.Common.{◌≡◌, ℕ, Bool, true, false, Option, Some, None, Result, Err, refl}
use Rattle.std.specs.Prelude.{nat_lt, not, is_some, is_none, if◌then◌else◌, option_map, option_and_then}
use Rattle.c_tree.specs.declared.raw.expr.RawExpr.TheOpen.{RawExpr-F}
use Rattle.c_tree.specs.declared.raw.program.RawMember.{RawMember}
use Rattle.c_tree.specs.declared.raw.program.RawProgram.{RawProgram}
use Rattle.c_language.specs.Words.{Bytes}
use Rattle.c_language.specs.DeclaredTypes.{written_type}
use Rattle.c_language.specs.Scopes.{Scope}
use Rattle.c_language.specs.ExprTypes.{a_place, struct_of, member_of, member_type, pointed}
use Rattle.c_language.specs.ExprRules.{holds_of, fails}
use Rattle.c_language.specs.declared.expr_type.ExprType.{ExprType}
use Rattle.c_language.specs.declared.expr_type.Operand.{Operand}
use Rattle.c_types_base.specs.Judging.{fault_or, judge_seen, member_or, selected_of, judge_selected}

typed_or : (t : Option ExprType) → fault_or None (option_map a_place t) ≡ member_or true t
typed_or None = refl
typed_or (Some t) = refl

found_or : (f : RawMember → Option ExprType) (m : Option RawMember)
    → fault_or (if is_none m then Some 8 else None) (option_map a_place (option_and_then f m)) ≡ member_or (is_some m) (option_and_then f m)
found_or f None = refl
found_or f (Some m) = typed_or (f m)

complete_or : (b : Bool) (f : RawMember → Option ExprType) (m : Option RawMember)
    → fault_or (if not b then Some 7 else (if is_none m then Some 8 else None)) (option_map a_place (if b then option_and_then f m else None))
    ≡ (if b then member_or (is_some m) (if b then option_and_then f m else None) else Err 7)
complete_or true f m = found_or f m
complete_or false f m = refl

module _ (raw : RawProgram) (scope : Scope) (name : Bytes) where
  of_struct : (s : Option ℕ)
      → fault_or (if fails (Some s) then Some 12
      else (if holds_of (λ (k : ℕ). not (nat_lt k scope.structs)) s then Some 7
      else (if holds_of (λ (k : ℕ). is_none (member_of raw k name)) s then Some 8 else None)))
      (option_map a_place (option_and_then (member_type raw scope name) s))
      ≡ selected_of raw scope name s
  of_struct None = refl
  of_struct (Some s) = complete_or (nat_lt s scope.structs) (λ (m : RawMember). written_type raw m.shape) (member_of raw s name)

  pub member_judged : (a : Operand) → judge_seen raw scope (RawExpr-F.Member (Some a) name) ≡ judge_selected raw scope name a.shape
  member_judged a = of_struct (struct_of a.shape)

  abbrev pub selected_from : Option ExprType → Result Operand ℕ
  selected_from None = Err 12
  selected_from (Some t) = judge_selected raw scope name t

  of_target : (t : Option ExprType)
      → fault_or (if fails (Some (option_and_then struct_of t)) then Some 12
      else (if holds_of (λ (o : ExprType). holds_of (λ (k : ℕ). not (nat_lt k scope.structs)) (struct_of o)) t then Some 7
      else (if holds_of (λ (o : ExprType). holds_of (λ (k : ℕ). is_none (member_of raw k name)) (struct_of o)) t then Some 8 else None)))
      (option_map a_place (option_and_then (λ (o : ExprType). option_and_then (member_type raw scope name) (struct_of o)) t))
      ≡ selected_from t
  of_target None = refl
  of_target (Some t) = of_struct (struct_of t)

  pub arrow_judged : (a : Operand) → judge_seen raw scope (RawExpr-F.Arrow (Some a) name) ≡ selected_from (pointed a)
  arrow_judged a = of_target (pointed a)
