-- What the rules ask of an expression is the same at places that agree on its names.
use Rattle.std.proofs.Common.{◌≡◌, ℕ, List, [], ◌∷◌, Bool, not, ◌&&◌, ◌||◌, Option, refl, sym, ap, ap₂, subst, ◌∙◌}
use Rattle.std.specs.Prelude.{option_and_then, is_none, nat_lt}
use Rattle.c_arith.specs.declared.operators.BinaryOp.{BinaryOp}
use Rattle.c_tree.specs.declared.raw.expr.RawExpr.{RawExpr, out-RawExpr}
use Rattle.c_tree.specs.declared.raw.expr.RawExpr.TheOpen.{RawExpr-F}
use Rattle.c_tree.specs.declared.raw.expr.RawExpr.TheViews.{roll-out-RawExpr}
use Rattle.c_tree.specs.declared.raw.program.RawProgram.{RawProgram}
use Rattle.c_language.specs.Words.{Bytes}
use Rattle.c_language.specs.Scopes.{Scope, meaning_in}
use Rattle.c_language.specs.ExprTypes.{operand, pointed, struct_of, value_type, target_of}
use Rattle.c_language.specs.ExprRules.{Seen, seen, is_undeclared, lacks_header, complete_base, complete_in, is_complete, holds_of, points_to_incomplete, moves, moves_incomplete, is_incomplete_struct, needs_struct, selects_missing, is_function, has_bad_operand, has_no_address}
use Rattle.c_language.specs.declared.expr_type.Layer.{Layer}
use Rattle.c_language.specs.declared.expr_type.Layer.TheVariants.{Pointer, Array}
use Rattle.c_language.specs.declared.expr_type.Base.{Base}
use Rattle.c_language.specs.declared.expr_type.Base.TheVariants as base
use Rattle.c_language.specs.declared.expr_type.ExprType.{ExprType}
use Rattle.c_language.specs.declared.expr_type.Operand.{Operand}
use Rattle.c_language.proofs.Operands.{holds_same, headers_same, missing_same}
use Rattle.c_scope_laws.specs.Agreement.{SameOutside, Agree}
use Rattle.c_scope_laws.proofs.Outside.{members_same}
use Rattle.c_scope_laws.proofs.Meanings.{is_none_moved, is_function_moved}
use Rattle.c_scope_laws.proofs.ExprAgreement.{Covers, CoversLayer, covers_layer, seen_same}

module _ (f : ℕ → ℕ) (named : Bytes → Type 0) (raw other : RawProgram) (scope next : Scope) (like : SameOutside raw other) (agree : Agree f named scope next) where
  -- ---- struct types that are complete

  base_same : (b : Base) → complete_base next b ≡ complete_base scope b
  base_same (base.Struct k) = ap (nat_lt k) agree.structs
  base_same (base.Integer t) = refl
  base_same base.Void = refl

  in_same : (ls : List Layer) (b : Base) → complete_in next ls b ≡ complete_in scope ls b
  in_same [] b = base_same b
  in_same (Pointer ∷ ls) b = refl
  in_same (Array n ∷ ls) b = in_same ls b

  pub complete_same : (t : ExprType) → is_complete next t ≡ is_complete scope t
  complete_same t = in_same t.layers t.base

  points_same : (x : Operand) → points_to_incomplete next x ≡ points_to_incomplete scope x
  points_same x = holds_same (λ (t : ExprType). not (is_complete scope t)) (λ (t : ExprType). not (is_complete next t)) (λ t. ap not (complete_same t)) (target_of (value_type x.shape))

  pub points_in_same : (o : Option Operand) → holds_of (points_to_incomplete next) o ≡ holds_of (points_to_incomplete scope) o
  points_in_same = holds_same (points_to_incomplete scope) (points_to_incomplete next) points_same

  pub moves_same : (op : BinaryOp) (a b : Option Operand) → moves_incomplete next op a b ≡ moves_incomplete scope op a b
  moves_same op a b = ap₂ (λ (x y : Bool). moves op && (x || y)) (points_in_same a) (points_in_same b)

  incomplete_same : (t : ExprType) → is_incomplete_struct next t ≡ is_incomplete_struct scope t
  incomplete_same t = holds_same (λ (s : ℕ). not (nat_lt s scope.structs)) (λ (s : ℕ). not (nat_lt s next.structs)) (λ s. ap (λ (n : ℕ). not (nat_lt s n)) agree.structs) (struct_of t)

  needs_same : (s : Seen) → needs_struct next s ≡ needs_struct scope s
  needs_same (RawExpr-F.Constant text) = refl
  needs_same RawExpr-F.Null = refl
  needs_same RawExpr-F.Eof = refl
  needs_same (RawExpr-F.Variable name) = refl
  needs_same (RawExpr-F.Unary o a) = refl
  needs_same (RawExpr-F.Deref a) = refl
  needs_same (RawExpr-F.AddressOf a) = refl
  needs_same (RawExpr-F.Binary o a b) = moves_same o a b
  needs_same (RawExpr-F.AndAlso a b) = refl
  needs_same (RawExpr-F.OrElse a b) = refl
  needs_same (RawExpr-F.Choose c a b) = refl
  needs_same (RawExpr-F.Cast t a) = refl
  needs_same (RawExpr-F.Index a i) = points_in_same a
  needs_same (RawExpr-F.Member a m) = holds_same (λ (x : Operand). is_incomplete_struct scope x.shape) (λ (x : Operand). is_incomplete_struct next x.shape) (λ x. incomplete_same x.shape) a
  needs_same (RawExpr-F.Arrow a m) = holds_same (is_incomplete_struct scope) (is_incomplete_struct next) incomplete_same (option_and_then pointed a)
  needs_same (RawExpr-F.Paren a) = refl

  -- ---- names

  undeclared_same : (s : Seen) → CoversLayer named s → is_undeclared next s ≡ is_undeclared scope s
  undeclared_same (RawExpr-F.Constant text) h = refl
  undeclared_same RawExpr-F.Null h = refl
  undeclared_same RawExpr-F.Eof h = refl
  undeclared_same (RawExpr-F.Variable name) h = ap is_none (agree.names name h) ∙ is_none_moved f (meaning_in scope name)
  undeclared_same (RawExpr-F.Unary o a) h = refl
  undeclared_same (RawExpr-F.Deref a) h = refl
  undeclared_same (RawExpr-F.AddressOf a) h = refl
  undeclared_same (RawExpr-F.Binary o a b) h = refl
  undeclared_same (RawExpr-F.AndAlso a b) h = refl
  undeclared_same (RawExpr-F.OrElse a b) h = refl
  undeclared_same (RawExpr-F.Choose c a b) h = refl
  undeclared_same (RawExpr-F.Cast t a) h = refl
  undeclared_same (RawExpr-F.Index a i) h = refl
  undeclared_same (RawExpr-F.Member a m) h = refl
  undeclared_same (RawExpr-F.Arrow a m) h = refl
  undeclared_same (RawExpr-F.Paren a) h = refl

  operators_same : (s : Seen) → CoversLayer named s → has_bad_operand next s ≡ has_bad_operand scope s
  operators_same (RawExpr-F.Constant text) h = refl
  operators_same RawExpr-F.Null h = refl
  operators_same RawExpr-F.Eof h = refl
  operators_same (RawExpr-F.Variable name) h = ap is_function (agree.names name h) ∙ is_function_moved f (meaning_in scope name)
  operators_same (RawExpr-F.Unary o a) h = refl
  operators_same (RawExpr-F.Deref a) h = refl
  operators_same (RawExpr-F.AddressOf a) h = refl
  operators_same (RawExpr-F.Binary o a b) h = refl
  operators_same (RawExpr-F.AndAlso a b) h = refl
  operators_same (RawExpr-F.OrElse a b) h = refl
  operators_same (RawExpr-F.Choose c a b) h = refl
  operators_same (RawExpr-F.Cast t a) h = refl
  operators_same (RawExpr-F.Index a i) h = refl
  operators_same (RawExpr-F.Member a m) h = refl
  operators_same (RawExpr-F.Arrow a m) h = refl
  operators_same (RawExpr-F.Paren a) h = refl

  -- ---- tests at an expression

  covers_seen : (a : RawExpr) → Covers named a → CoversLayer named (seen raw scope a)
  covers_seen a c = covers_layer named (operand raw scope) (out-RawExpr a) (subst (Covers named) (sym (roll-out-RawExpr a)) c)

  pub undeclared_at : (a : RawExpr) → Covers named a → is_undeclared next (seen other next a) ≡ is_undeclared scope (seen raw scope a)
  undeclared_at a c = ap (is_undeclared next) (seen_same f named raw other scope next like agree a c) ∙ undeclared_same (seen raw scope a) (covers_seen a c)

  pub operators_at : (a : RawExpr) → Covers named a → has_bad_operand next (seen other next a) ≡ has_bad_operand scope (seen raw scope a)
  operators_at a c = ap (has_bad_operand next) (seen_same f named raw other scope next like agree a c) ∙ operators_same (seen raw scope a) (covers_seen a c)

  pub headers_at : (a : RawExpr) → Covers named a → lacks_header other (seen other next a) ≡ lacks_header raw (seen raw scope a)
  headers_at a c = ap (lacks_header other) (seen_same f named raw other scope next like agree a c) ∙ headers_same other raw like.stdio like.stdlib (seen raw scope a)

  pub needs_at : (a : RawExpr) → Covers named a → needs_struct next (seen other next a) ≡ needs_struct scope (seen raw scope a)
  needs_at a c = ap (needs_struct next) (seen_same f named raw other scope next like agree a c) ∙ needs_same (seen raw scope a)

  pub missing_at : (a : RawExpr) → Covers named a → selects_missing other (seen other next a) ≡ selects_missing raw (seen raw scope a)
  missing_at a c = ap (selects_missing other) (seen_same f named raw other scope next like agree a c) ∙ missing_same other raw (λ s m. ap is_none (members_same raw other like s m)) (seen raw scope a)

  pub address_at : (a : RawExpr) → Covers named a → has_no_address (seen other next a) ≡ has_no_address (seen raw scope a)
  address_at a c = ap has_no_address (seen_same f named raw other scope next like agree a c)
