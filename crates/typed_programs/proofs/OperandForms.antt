-- The operand that each form of expression is, as equations.
use Rattle.std.proofs.Common.{◌≡◌, ℕ, Option, sym, ap, ◌∙◌}
use Rattle.c_arith.specs.declared.int_type.IntType.{IntType}
use Rattle.c_arith.specs.declared.operators.UnaryOp.{UnaryOp}
use Rattle.c_arith.specs.declared.operators.BinaryOp.{BinaryOp}
use Rattle.c_tree.specs.declared.expr.Expr.{Expr, fold-roll-Expr}
use Rattle.c_tree.specs.declared.expr.Expr.TheOpen.{Expr-F}
use Rattle.c_tree.specs.declared.expr.Expr.TheVariants as e
use Rattle.c_tree.specs.declared.expr.MemberId.{MemberId}
use Rattle.c_language.specs.Words.{Bytes}
use Rattle.c_language.specs.declared.expr_type.Operand.{Operand}
use Rattle.typed_programs.specs.TreeOperands.{Declarations, tree_operand_step, operand_of}

module _ (d : Declarations) where
  pub operand-Constant : (text : Bytes) (t : IntType) (v : ℕ) → operand_of d (e.Constant text t v) ≡ tree_operand_step d (Expr-F.Constant text t v)
  operand-Constant text t v = ap (operand_of d) (sym (e.rolls-Constant text t v)) ∙ fold-roll-Expr (Option Operand) (tree_operand_step d) (Expr-F.Constant text t v)

  pub operand-Null : operand_of d e.Null ≡ tree_operand_step d Expr-F.Null
  operand-Null = ap (operand_of d) (sym e.rolls-Null) ∙ fold-roll-Expr (Option Operand) (tree_operand_step d) Expr-F.Null

  pub operand-Eof : operand_of d e.Eof ≡ tree_operand_step d Expr-F.Eof
  operand-Eof = ap (operand_of d) (sym e.rolls-Eof) ∙ fold-roll-Expr (Option Operand) (tree_operand_step d) Expr-F.Eof

  pub operand-Variable : (x : ℕ) → operand_of d (e.Variable x) ≡ tree_operand_step d (Expr-F.Variable x)
  operand-Variable x = ap (operand_of d) (sym (e.rolls-Variable x)) ∙ fold-roll-Expr (Option Operand) (tree_operand_step d) (Expr-F.Variable x)

  pub operand-Unary : (op : UnaryOp) (a : Expr) → operand_of d (e.Unary op a) ≡ tree_operand_step d (Expr-F.Unary op (operand_of d a))
  operand-Unary op a = ap (operand_of d) (sym (e.rolls-Unary op a)) ∙ fold-roll-Expr (Option Operand) (tree_operand_step d) (Expr-F.Unary op a)

  pub operand-Deref : (a : Expr) → operand_of d (e.Deref a) ≡ tree_operand_step d (Expr-F.Deref (operand_of d a))
  operand-Deref a = ap (operand_of d) (sym (e.rolls-Deref a)) ∙ fold-roll-Expr (Option Operand) (tree_operand_step d) (Expr-F.Deref a)

  pub operand-AddressOf : (a : Expr) → operand_of d (e.AddressOf a) ≡ tree_operand_step d (Expr-F.AddressOf (operand_of d a))
  operand-AddressOf a = ap (operand_of d) (sym (e.rolls-AddressOf a)) ∙ fold-roll-Expr (Option Operand) (tree_operand_step d) (Expr-F.AddressOf a)

  pub operand-Binary : (op : BinaryOp) (a b : Expr) → operand_of d (e.Binary op a b) ≡ tree_operand_step d (Expr-F.Binary op (operand_of d a) (operand_of d b))
  operand-Binary op a b = ap (operand_of d) (sym (e.rolls-Binary op a b)) ∙ fold-roll-Expr (Option Operand) (tree_operand_step d) (Expr-F.Binary op a b)

  pub operand-AndAlso : (a b : Expr) → operand_of d (e.AndAlso a b) ≡ tree_operand_step d (Expr-F.AndAlso (operand_of d a) (operand_of d b))
  operand-AndAlso a b = ap (operand_of d) (sym (e.rolls-AndAlso a b)) ∙ fold-roll-Expr (Option Operand) (tree_operand_step d) (Expr-F.AndAlso a b)

  pub operand-OrElse : (a b : Expr) → operand_of d (e.OrElse a b) ≡ tree_operand_step d (Expr-F.OrElse (operand_of d a) (operand_of d b))
  operand-OrElse a b = ap (operand_of d) (sym (e.rolls-OrElse a b)) ∙ fold-roll-Expr (Option Operand) (tree_operand_step d) (Expr-F.OrElse a b)

  pub operand-Choose : (c a b : Expr) → operand_of d (e.Choose c a b) ≡ tree_operand_step d (Expr-F.Choose (operand_of d c) (operand_of d a) (operand_of d b))
  operand-Choose c a b = ap (operand_of d) (sym (e.rolls-Choose c a b)) ∙ fold-roll-Expr (Option Operand) (tree_operand_step d) (Expr-F.Choose c a b)

  pub operand-Cast : (t : IntType) (a : Expr) → operand_of d (e.Cast t a) ≡ tree_operand_step d (Expr-F.Cast t (operand_of d a))
  operand-Cast t a = ap (operand_of d) (sym (e.rolls-Cast t a)) ∙ fold-roll-Expr (Option Operand) (tree_operand_step d) (Expr-F.Cast t a)

  pub operand-Index : (a i : Expr) → operand_of d (e.Index a i) ≡ tree_operand_step d (Expr-F.Index (operand_of d a) (operand_of d i))
  operand-Index a i = ap (operand_of d) (sym (e.rolls-Index a i)) ∙ fold-roll-Expr (Option Operand) (tree_operand_step d) (Expr-F.Index a i)

  pub operand-Member : (a : Expr) (m : MemberId) → operand_of d (e.Member a m) ≡ tree_operand_step d (Expr-F.Member (operand_of d a) m)
  operand-Member a m = ap (operand_of d) (sym (e.rolls-Member a m)) ∙ fold-roll-Expr (Option Operand) (tree_operand_step d) (Expr-F.Member a m)

  pub operand-Arrow : (a : Expr) (m : MemberId) → operand_of d (e.Arrow a m) ≡ tree_operand_step d (Expr-F.Arrow (operand_of d a) m)
  operand-Arrow a m = ap (operand_of d) (sym (e.rolls-Arrow a m)) ∙ fold-roll-Expr (Option Operand) (tree_operand_step d) (Expr-F.Arrow a m)

  pub operand-Paren : (a : Expr) → operand_of d (e.Paren a) ≡ tree_operand_step d (Expr-F.Paren (operand_of d a))
  operand-Paren a = ap (operand_of d) (sym (e.rolls-Paren a)) ∙ fold-roll-Expr (Option Operand) (tree_operand_step d) (Expr-F.Paren a)

pub ruleset operands_of = (operand-Constant, operand-Null, operand-Eof, operand-Variable, operand-Unary, operand-Deref, operand-AddressOf, operand-Binary, operand-AndAlso, operand-OrElse, operand-Choose, operand-Cast, operand-Index, operand-Member, operand-Arrow, operand-Paren)
