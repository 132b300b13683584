-- The types of operands that break no rule, and what the rules ask of an expression where two texts agree.
use Rattle.std.proofs.Common.{◌≡◌, ℕ, Option, Some, None, Bool, true, false, not, ◌&&◌, ◌||◌, true≢false, refl, ap, ap₂}
use Rattle.std.specs.Prelude.{Contains, option_and_then, is_none, nat_lt}
use Rattle.std.proofs.lemmas.Bool.{false_from_ne_true}
use Rattle.c_tree.specs.declared.raw.expr.RawExpr.{RawExpr, map-RawExpr}
use Rattle.c_tree.specs.declared.raw.expr.RawExpr.TheOpen.{RawExpr-F}
use Rattle.c_tree.specs.declared.raw.expr.RawExpr.TheVariants as e
use Rattle.c_tree.specs.declared.raw.program.RawProgram.{RawProgram}
use Rattle.c_language.specs.Words.{Bytes}
use Rattle.c_language.specs.Scopes.{Scope, Meaning, meaning_in}
use Rattle.c_language.specs.ExprTypes.{operand_step, a_value, a_place, variable_in, unary_result, binary_result, logical_result, choose_result, cast_result, pointed, indexed, address_result, given, is_array, value_type, struct_of, selected_type, member_of, member_type, operand}
use Rattle.c_language.specs.declared.expr_type.ExprType.{ExprType}
use Rattle.c_language.specs.declared.expr_type.Operand.{Operand}
use Rattle.c_language.specs.DeclaredTypes.{has_stdio, has_stdlib}
use Rattle.c_language.specs.ExprRules.{Seen, is_undeclared, has_bad_operand, has_no_address, needs_struct, selects_missing, fails, holds_of, is_function, is_incomplete_struct, lacks_member, lacks_header, seen}
use Rattle.c_language.specs.NameRules.{UsesUndeclared}
use Rattle.c_language.specs.StructRules.{MisusesTag, MisnamesMember}
use Rattle.c_language.specs.TypeRules.{MisusesOperator, MisusesAddress}
use Rattle.c_language.specs.Phrases.{Part}
use Rattle.c_language.specs.Uses.{IsWithin, expressions, holds}
use Rattle.c_language.specs.Rules.{undeclared, tag, member, operator, address, BreaksNone}
use Rattle.c_language.proofs.Options.{there_map}
use Rattle.c_language.proofs.UseLemmas.{OfParts, out-Constant}
use Rattle.c_language.specs.Options.{IsThere}

pub not_fails : {A : Type 0} (r : Option A) → fails (Some r) ≡ false → IsThere r
not_fails None h = true≢false h
not_fails (Some x) h = tt

pub has_address : (is_place is_array : Bool) (t : ExprType) → (not is_place || is_array) ≡ false → IsThere (given (is_place && not is_array) t)
has_address true true t h = true≢false h
has_address true false t h = tt
has_address false b t h = true≢false h

-- tests that agree hold of the same
pub holds_same : {A : Type 0} (test new : A → Bool) → ((x : A) → new x ≡ test x) → (o : Option A) → holds_of new o ≡ holds_of test o
holds_same test new same None = refl
holds_same test new same (Some x) = same x

module _ (a b : RawProgram) where
  -- texts with the same headers lack the same
  pub headers_same : has_stdio a ≡ has_stdio b → has_stdlib a ≡ has_stdlib b → (s : Seen) → lacks_header a s ≡ lacks_header b s
  headers_same io lib RawExpr-F.Null = ap₂ (λ (x y : Bool). not (x || y)) io lib
  headers_same io lib RawExpr-F.Eof = ap not io
  headers_same io lib _ = refl

  module _ (lacks : (k : ℕ) (name : Bytes) → is_none (member_of a k name) ≡ is_none (member_of b k name)) where
    lacks_same : (name : Bytes) (t : ExprType) → lacks_member a name t ≡ lacks_member b name t
    lacks_same name t = holds_same (λ (k : ℕ). is_none (member_of b k name)) (λ (k : ℕ). is_none (member_of a k name)) (λ k. lacks k name) (struct_of t)

    -- texts whose struct types lack the same members select the same that are missing
    pub missing_same : (s : Seen) → selects_missing a s ≡ selects_missing b s
    missing_same (RawExpr-F.Member x m) = holds_same (λ (o : Operand). lacks_member b m o.shape) (λ (o : Operand). lacks_member a m o.shape) (λ o. lacks_same m o.shape) x
    missing_same (RawExpr-F.Arrow x m) = holds_same (lacks_member b m) (lacks_member a m) (lacks_same m) (option_and_then pointed x)
    missing_same _ = refl

-- what a name stands for has its type
abbrev pub HasType : Meaning → Type 0
HasType (Meaning.Variable id t) = IsThere t
HasType Meaning.Function = Unit {0}

abbrev pub HasTypeIf : Option Meaning → Type 0
HasTypeIf None = Unit {0}
HasTypeIf (Some m) = HasType m

pub seen-Constant : (raw : RawProgram) (scope : Scope) (text : Bytes) → seen raw scope (e.Constant text) ≡ RawExpr-F.Constant text
seen-Constant raw scope text = ap (map-RawExpr RawExpr (Option Operand) (operand raw scope)) (out-Constant text)

-- a form of an expression breaks none of these rules
pub record IsClean (raw : RawProgram) (scope : Scope) (s : Seen) : Type 0 where
  pub declared : is_undeclared scope s ≡ false
  pub operands : has_bad_operand scope s ≡ false
  pub address : has_no_address s ≡ false
  pub complete : needs_struct scope s ≡ false
  pub member : selects_missing raw s ≡ false

-- no part of an expression breaks one
abbrev pub AreClean : RawProgram → Scope → RawExpr → Type 0
AreClean raw scope a = (inner : RawExpr) → IsWithin inner a → IsClean raw scope (seen raw scope inner)

-- the expressions of what breaks no rule are clean
pub kept_clean : (raw : RawProgram) (scope : Scope) (part : Part) → BreaksNone raw scope part → (a : RawExpr) → Contains (expressions part) a → AreClean raw scope a
kept_clean raw scope part kept a c inner w = record {
  declared = false_from_ne_true _ (λ h. kept 1 (undeclared (UsesUndeclared.in_expression (holds c w) h)));
  operands = false_from_ne_true _ (λ h. kept 12 (operator (MisusesOperator.in_expression (holds c w) h)));
  address = false_from_ne_true _ (λ h. kept 15 (address (MisusesAddress.in_expression (holds c w) h)));
  complete = false_from_ne_true _ (λ h. kept 7 (tag (MisusesTag.in_expression (holds c w) h)));
  member = false_from_ne_true _ (λ h. kept 8 (member (MisnamesMember.missing (holds c w) h)));
}

-- a form that breaks none of them is an operand, where variables have types, and complete struct types their members
module _ (raw : RawProgram) (scope : Scope)
    (variables : (name : Bytes) → is_none (meaning_in scope name) ≡ false → is_function (meaning_in scope name) ≡ false → IsThere (variable_in (meaning_in scope name)))
    (members : (name : Bytes) (s : Option ℕ) → IsThere s → holds_of (λ (k : ℕ). not (nat_lt k scope.structs)) s ≡ false → holds_of (λ (k : ℕ). is_none (member_of raw k name)) s ≡ false → IsThere (option_and_then (member_type raw scope name) s)) where
  at_target : (name : Bytes) (t : Option ExprType) → IsThere (option_and_then struct_of t) → holds_of (is_incomplete_struct scope) t ≡ false
      → holds_of (lacks_member raw name) t ≡ false → IsThere (option_and_then (selected_type raw scope name) t)
  at_target name None h before has = absurd h
  at_target name (Some t) h before has = members name (struct_of t) h before has

  pub form_there : (s : Seen) → OfParts IsThere s → IsClean raw scope s → IsThere (operand_step raw scope s)
  form_there (RawExpr-F.Constant text) parts clean = tt
  form_there RawExpr-F.Null parts clean = tt
  form_there RawExpr-F.Eof parts clean = tt
  form_there (RawExpr-F.Variable name) parts clean = variables name clean.declared clean.operands
  form_there (RawExpr-F.Unary op None) parts clean = absurd parts
  form_there (RawExpr-F.Unary op (Some x)) parts clean = there_map a_value (unary_result op (value_type x.shape)) (not_fails _ clean.operands)
  form_there (RawExpr-F.Deref None) parts clean = absurd parts
  form_there (RawExpr-F.Deref (Some x)) parts clean = there_map a_place (pointed x) (not_fails _ clean.operands)
  form_there (RawExpr-F.AddressOf None) parts clean = absurd parts
  form_there (RawExpr-F.AddressOf (Some x)) parts clean = there_map a_value (address_result x) (has_address x.is_place (is_array x.shape) _ clean.address)
  form_there (RawExpr-F.Binary op None b) parts clean = absurd parts.0
  form_there (RawExpr-F.Binary op (Some x) None) parts clean = absurd parts.1
  form_there (RawExpr-F.Binary op (Some x) (Some y)) parts clean = there_map a_value (binary_result op x y) (not_fails _ clean.operands)
  form_there (RawExpr-F.AndAlso None b) parts clean = absurd parts.0
  form_there (RawExpr-F.AndAlso (Some x) None) parts clean = absurd parts.1
  form_there (RawExpr-F.AndAlso (Some x) (Some y)) parts clean = there_map a_value (logical_result x y) (not_fails _ clean.operands)
  form_there (RawExpr-F.OrElse None b) parts clean = absurd parts.0
  form_there (RawExpr-F.OrElse (Some x) None) parts clean = absurd parts.1
  form_there (RawExpr-F.OrElse (Some x) (Some y)) parts clean = there_map a_value (logical_result x y) (not_fails _ clean.operands)
  form_there (RawExpr-F.Choose None a b) parts clean = absurd parts.0
  form_there (RawExpr-F.Choose (Some x) None b) parts clean = absurd parts.1
  form_there (RawExpr-F.Choose (Some x) (Some y) None) parts clean = absurd parts.2
  form_there (RawExpr-F.Choose (Some x) (Some y) (Some z)) parts clean = there_map a_value (choose_result x y z) (not_fails _ clean.operands)
  form_there (RawExpr-F.Cast t None) parts clean = absurd parts
  form_there (RawExpr-F.Cast t (Some x)) parts clean = there_map a_value (cast_result t x) (not_fails _ clean.operands)
  form_there (RawExpr-F.Index None i) parts clean = absurd parts.0
  form_there (RawExpr-F.Index (Some x) None) parts clean = absurd parts.1
  form_there (RawExpr-F.Index (Some x) (Some y)) parts clean = there_map a_place (indexed x y) (not_fails _ clean.operands)
  form_there (RawExpr-F.Member None m) parts clean = absurd parts
  form_there (RawExpr-F.Member (Some x) m) parts clean =
      there_map a_place (selected_type raw scope m x.shape) (members m (struct_of x.shape) (not_fails _ clean.operands) clean.complete clean.member)
  form_there (RawExpr-F.Arrow None m) parts clean = absurd parts
  form_there (RawExpr-F.Arrow (Some x) m) parts clean =
      there_map a_place (option_and_then (selected_type raw scope m) (pointed x)) (at_target m (pointed x) (not_fails _ clean.operands) clean.complete clean.member)
  form_there (RawExpr-F.Paren a) parts clean = parts
