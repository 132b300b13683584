-- What each form of expression is as a constant expression, as equations.
use Rattle.std.proofs.Common.{◌≡◌, ℕ, zero, suc, ◌<◌, pos, Option, Some, refl, sym, ap, ◌∙◌, arith}
use Rattle.c_arith.specs.declared.int_type.IntType.{IntType}
use Rattle.c_arith.specs.declared.operators.UnaryOp.{UnaryOp}
use Rattle.c_arith.specs.declared.operators.BinaryOp.{BinaryOp}
use Rattle.c_tree.specs.declared.raw.expr.RawExpr.{RawExpr, fold-roll-RawExpr}
use Rattle.c_tree.specs.declared.raw.expr.RawExpr.TheOpen.{RawExpr-F}
use Rattle.c_tree.specs.declared.raw.expr.RawExpr.TheVariants as e
use Rattle.c_language.specs.Words.{Bytes}
use Rattle.c_language.specs.ConstantEvaluation.{constant, constant_step}
use Rattle.c_language.specs.declared.constant.Constant.{Constant}
use Rattle.c_language.specs.DeclaredTypes.{positive}

pub constant-Constant : (text : Bytes) → constant (e.Constant text) ≡ constant_step (RawExpr-F.Constant text)
constant-Constant text = ap constant (sym (e.rolls-Constant text)) ∙ fold-roll-RawExpr (Option Constant) constant_step (RawExpr-F.Constant text)

pub constant-Null : constant e.Null ≡ constant_step RawExpr-F.Null
constant-Null = ap constant (sym e.rolls-Null) ∙ fold-roll-RawExpr (Option Constant) constant_step RawExpr-F.Null

pub constant-Eof : constant e.Eof ≡ constant_step RawExpr-F.Eof
constant-Eof = ap constant (sym e.rolls-Eof) ∙ fold-roll-RawExpr (Option Constant) constant_step RawExpr-F.Eof

pub constant-Variable : (name : Bytes) → constant (e.Variable name) ≡ constant_step (RawExpr-F.Variable name)
constant-Variable name = ap constant (sym (e.rolls-Variable name)) ∙ fold-roll-RawExpr (Option Constant) constant_step (RawExpr-F.Variable name)

pub constant-Unary : (op : UnaryOp) (a : RawExpr) → constant (e.Unary op a) ≡ constant_step (RawExpr-F.Unary op (constant a))
constant-Unary op a = ap constant (sym (e.rolls-Unary op a)) ∙ fold-roll-RawExpr (Option Constant) constant_step (RawExpr-F.Unary op a)

pub constant-Deref : (a : RawExpr) → constant (e.Deref a) ≡ constant_step (RawExpr-F.Deref (constant a))
constant-Deref a = ap constant (sym (e.rolls-Deref a)) ∙ fold-roll-RawExpr (Option Constant) constant_step (RawExpr-F.Deref a)

pub constant-AddressOf : (a : RawExpr) → constant (e.AddressOf a) ≡ constant_step (RawExpr-F.AddressOf (constant a))
constant-AddressOf a = ap constant (sym (e.rolls-AddressOf a)) ∙ fold-roll-RawExpr (Option Constant) constant_step (RawExpr-F.AddressOf a)

pub constant-Binary : (op : BinaryOp) (a b : RawExpr) → constant (e.Binary op a b) ≡ constant_step (RawExpr-F.Binary op (constant a) (constant b))
constant-Binary op a b = ap constant (sym (e.rolls-Binary op a b)) ∙ fold-roll-RawExpr (Option Constant) constant_step (RawExpr-F.Binary op a b)

pub constant-AndAlso : (a b : RawExpr) → constant (e.AndAlso a b) ≡ constant_step (RawExpr-F.AndAlso (constant a) (constant b))
constant-AndAlso a b = ap constant (sym (e.rolls-AndAlso a b)) ∙ fold-roll-RawExpr (Option Constant) constant_step (RawExpr-F.AndAlso a b)

pub constant-OrElse : (a b : RawExpr) → constant (e.OrElse a b) ≡ constant_step (RawExpr-F.OrElse (constant a) (constant b))
constant-OrElse a b = ap constant (sym (e.rolls-OrElse a b)) ∙ fold-roll-RawExpr (Option Constant) constant_step (RawExpr-F.OrElse a b)

pub constant-Choose : (c a b : RawExpr) → constant (e.Choose c a b) ≡ constant_step (RawExpr-F.Choose (constant c) (constant a) (constant b))
constant-Choose c a b = ap constant (sym (e.rolls-Choose c a b)) ∙ fold-roll-RawExpr (Option Constant) constant_step (RawExpr-F.Choose c a b)

pub constant-Cast : (t : IntType) (a : RawExpr) → constant (e.Cast t a) ≡ constant_step (RawExpr-F.Cast t (constant a))
constant-Cast t a = ap constant (sym (e.rolls-Cast t a)) ∙ fold-roll-RawExpr (Option Constant) constant_step (RawExpr-F.Cast t a)

pub constant-Index : (a i : RawExpr) → constant (e.Index a i) ≡ constant_step (RawExpr-F.Index (constant a) (constant i))
constant-Index a i = ap constant (sym (e.rolls-Index a i)) ∙ fold-roll-RawExpr (Option Constant) constant_step (RawExpr-F.Index a i)

pub constant-Member : (a : RawExpr) (m : Bytes) → constant (e.Member a m) ≡ constant_step (RawExpr-F.Member (constant a) m)
constant-Member a m = ap constant (sym (e.rolls-Member a m)) ∙ fold-roll-RawExpr (Option Constant) constant_step (RawExpr-F.Member a m)

pub constant-Arrow : (a : RawExpr) (m : Bytes) → constant (e.Arrow a m) ≡ constant_step (RawExpr-F.Arrow (constant a) m)
constant-Arrow a m = ap constant (sym (e.rolls-Arrow a m)) ∙ fold-roll-RawExpr (Option Constant) constant_step (RawExpr-F.Arrow a m)

pub constant-Paren : (a : RawExpr) → constant (e.Paren a) ≡ constant_step (RawExpr-F.Paren (constant a))
constant-Paren a = ap constant (sym (e.rolls-Paren a)) ∙ fold-roll-RawExpr (Option Constant) constant_step (RawExpr-F.Paren a)

-- a number that isn't 0 counts as itself
pub counted_positive : (items : ℕ) → 0 < items → positive (pos items) ≡ Some items
counted_positive zero h = absurd (omega (arith, h))
counted_positive (suc n) h = refl

pub ruleset constants_of = (constant-Constant, constant-Null, constant-Eof, constant-Variable, constant-Unary, constant-Deref, constant-AddressOf, constant-Binary, constant-AndAlso, constant-OrElse, constant-Choose, constant-Cast, constant-Index, constant-Member, constant-Arrow, constant-Paren)
