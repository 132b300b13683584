-- The nesting of each form of expression and type, as equations.
use Rattle.std.proofs.Common.{◌≡◌, ℕ, ◌+◌, max, sym, ap, ◌∙◌}
use Rattle.c_arith.specs.declared.int_type.IntType.{IntType}
use Rattle.c_arith.specs.declared.operators.UnaryOp.{UnaryOp}
use Rattle.c_arith.specs.declared.operators.BinaryOp.{BinaryOp}
use Rattle.c_tree.specs.declared.raw.expr.RawExpr.{RawExpr, fold-roll-RawExpr}
use Rattle.c_tree.specs.declared.raw.expr.RawExpr.TheOpen.{RawExpr-F}
use Rattle.c_tree.specs.declared.raw.expr.RawExpr.TheVariants as e
use Rattle.c_language.specs.Words.{Bytes}
use Rattle.c_tree.specs.declared.raw.expr.RawLength.{RawLength}
use Rattle.c_tree.specs.declared.raw.expr.RawType.{RawType, fold-roll-RawType}
use Rattle.c_tree.specs.declared.raw.expr.RawType.TheOpen.{RawType-F}
use Rattle.c_tree.specs.declared.raw.expr.RawType.TheVariants as t
use Rattle.c_language.specs.ExprGrammar.{joint, applied, selected}
use Rattle.c_language.specs.Nesting.{nesting_step, nesting, length_nesting, type_nesting_step, type_nesting}
use Rattle.c_language.specs.declared.operators.Infix.{Infix}
use Rattle.c_language.specs.declared.operators.Infix.TheVariants.{Strict, AndAlso, OrElse}
use Rattle.c_language.specs.declared.operators.Prefix.{Prefix}
use Rattle.c_language.specs.declared.operators.Prefix.TheVariants.{Sign, Deref, AddressOf}
use Rattle.c_language.specs.declared.operators.Selector.{Selector}
use Rattle.c_language.specs.declared.operators.Selector.TheVariants.{Dot, Arrow}

pub nesting-Constant : (text : Bytes) → nesting (e.Constant text) ≡ 0
nesting-Constant text = ap nesting (sym (e.rolls-Constant text)) ∙ fold-roll-RawExpr ℕ nesting_step (RawExpr-F.Constant text)

pub nesting-Null : nesting e.Null ≡ 0
nesting-Null = ap nesting (sym e.rolls-Null) ∙ fold-roll-RawExpr ℕ nesting_step RawExpr-F.Null

pub nesting-Eof : nesting e.Eof ≡ 0
nesting-Eof = ap nesting (sym e.rolls-Eof) ∙ fold-roll-RawExpr ℕ nesting_step RawExpr-F.Eof

pub nesting-Variable : (text : Bytes) → nesting (e.Variable text) ≡ 0
nesting-Variable text = ap nesting (sym (e.rolls-Variable text)) ∙ fold-roll-RawExpr ℕ nesting_step (RawExpr-F.Variable text)

pub nesting-Unary : (op : UnaryOp) (a : RawExpr) → nesting (e.Unary op a) ≡ 1 + nesting a
nesting-Unary op a = ap nesting (sym (e.rolls-Unary op a)) ∙ fold-roll-RawExpr ℕ nesting_step (RawExpr-F.Unary op a)

pub nesting-Deref : (a : RawExpr) → nesting (e.Deref a) ≡ 1 + nesting a
nesting-Deref a = ap nesting (sym (e.rolls-Deref a)) ∙ fold-roll-RawExpr ℕ nesting_step (RawExpr-F.Deref a)

pub nesting-AddressOf : (a : RawExpr) → nesting (e.AddressOf a) ≡ 1 + nesting a
nesting-AddressOf a = ap nesting (sym (e.rolls-AddressOf a)) ∙ fold-roll-RawExpr ℕ nesting_step (RawExpr-F.AddressOf a)

pub nesting-Binary : (op : BinaryOp) (a b : RawExpr) → nesting (e.Binary op a b) ≡ 1 + max (nesting a) (nesting b)
nesting-Binary op a b = ap nesting (sym (e.rolls-Binary op a b)) ∙ fold-roll-RawExpr ℕ nesting_step (RawExpr-F.Binary op a b)

pub nesting-AndAlso : (a b : RawExpr) → nesting (e.AndAlso a b) ≡ 1 + max (nesting a) (nesting b)
nesting-AndAlso a b = ap nesting (sym (e.rolls-AndAlso a b)) ∙ fold-roll-RawExpr ℕ nesting_step (RawExpr-F.AndAlso a b)

pub nesting-OrElse : (a b : RawExpr) → nesting (e.OrElse a b) ≡ 1 + max (nesting a) (nesting b)
nesting-OrElse a b = ap nesting (sym (e.rolls-OrElse a b)) ∙ fold-roll-RawExpr ℕ nesting_step (RawExpr-F.OrElse a b)

pub nesting-Choose : (c a b : RawExpr) → nesting (e.Choose c a b) ≡ 1 + max (nesting c) (max (nesting a) (nesting b))
nesting-Choose c a b = ap nesting (sym (e.rolls-Choose c a b)) ∙ fold-roll-RawExpr ℕ nesting_step (RawExpr-F.Choose c a b)

pub nesting-Cast : (t : IntType) (a : RawExpr) → nesting (e.Cast t a) ≡ 1 + nesting a
nesting-Cast t a = ap nesting (sym (e.rolls-Cast t a)) ∙ fold-roll-RawExpr ℕ nesting_step (RawExpr-F.Cast t a)

pub nesting-Index : (a i : RawExpr) → nesting (e.Index a i) ≡ 1 + max (nesting a) (nesting i)
nesting-Index a i = ap nesting (sym (e.rolls-Index a i)) ∙ fold-roll-RawExpr ℕ nesting_step (RawExpr-F.Index a i)

pub nesting-Member : (a : RawExpr) (m : Bytes) → nesting (e.Member a m) ≡ 1 + nesting a
nesting-Member a m = ap nesting (sym (e.rolls-Member a m)) ∙ fold-roll-RawExpr ℕ nesting_step (RawExpr-F.Member a m)

pub nesting-Arrow : (a : RawExpr) (m : Bytes) → nesting (e.Arrow a m) ≡ 1 + nesting a
nesting-Arrow a m = ap nesting (sym (e.rolls-Arrow a m)) ∙ fold-roll-RawExpr ℕ nesting_step (RawExpr-F.Arrow a m)

pub nesting-Paren : (a : RawExpr) → nesting (e.Paren a) ≡ 1 + nesting a
nesting-Paren a = ap nesting (sym (e.rolls-Paren a)) ∙ fold-roll-RawExpr ℕ nesting_step (RawExpr-F.Paren a)

pub nesting-joint : (op : Infix) (a b : RawExpr) → nesting (joint op a b) ≡ 1 + max (nesting a) (nesting b)
nesting-joint (Strict op) a b = nesting-Binary op a b
nesting-joint AndAlso a b = nesting-AndAlso a b
nesting-joint OrElse a b = nesting-OrElse a b

pub nesting-applied : (op : Prefix) (a : RawExpr) → nesting (applied op a) ≡ 1 + nesting a
nesting-applied (Sign op) a = nesting-Unary op a
nesting-applied Deref a = nesting-Deref a
nesting-applied AddressOf a = nesting-AddressOf a

pub nesting-selected : (by : Selector) (a : RawExpr) (m : Bytes) → nesting (selected by a m) ≡ 1 + nesting a
nesting-selected Dot a m = nesting-Member a m
nesting-selected Arrow a m = nesting-Arrow a m

-- ---- types

pub type_nesting-Integer : (i : IntType) → type_nesting (t.Integer i) ≡ 0
type_nesting-Integer i = ap type_nesting (sym (t.rolls-Integer i)) ∙ fold-roll-RawType ℕ type_nesting_step (RawType-F.Integer i)

pub type_nesting-PointerTo : (a : RawType) → type_nesting (t.PointerTo a) ≡ 1 + type_nesting a
type_nesting-PointerTo a = ap type_nesting (sym (t.rolls-PointerTo a)) ∙ fold-roll-RawType ℕ type_nesting_step (RawType-F.PointerTo a)

pub type_nesting-Array : (a : RawType) (n : RawLength) → type_nesting (t.Array a n) ≡ 1 + max (length_nesting n) (type_nesting a)
type_nesting-Array a n = ap type_nesting (sym (t.rolls-Array a n)) ∙ fold-roll-RawType ℕ type_nesting_step (RawType-F.Array a n)

pub type_nesting-Struct : (tag : Bytes) → type_nesting (t.Struct tag) ≡ 0
type_nesting-Struct tag = ap type_nesting (sym (t.rolls-Struct tag)) ∙ fold-roll-RawType ℕ type_nesting_step (RawType-F.Struct tag)
