-- What each form of expression says of its tokens, as equations.
use Rattle.std.proofs.Common.{◌≡◌, ℕ, sym, ap, ◌∙◌}
use Rattle.c_arith.specs.declared.int_type.IntType.{IntType}
use Rattle.c_arith.specs.declared.operators.UnaryOp.{UnaryOp}
use Rattle.c_arith.specs.declared.operators.BinaryOp.{BinaryOp}
use Rattle.c_tree.specs.declared.raw.expr.RawExpr.{RawExpr, fold-roll-RawExpr}
use Rattle.c_tree.specs.declared.raw.expr.RawExpr.TheOpen.{RawExpr-F}
use Rattle.c_tree.specs.declared.raw.expr.RawExpr.TheVariants as e
use Rattle.c_language.specs.Words.{Bytes}
use Rattle.c_language.specs.ExprGrammar.{binary_level, level, joint, applied, selected, tightness_step, tightness}
use Rattle.c_language.specs.declared.operators.Infix.{Infix}
use Rattle.c_language.specs.declared.operators.Infix.TheVariants.{Strict, AndAlso, OrElse}
use Rattle.c_language.specs.declared.operators.Prefix.{Prefix}
use Rattle.c_language.specs.declared.operators.Prefix.TheVariants.{Sign, Deref, AddressOf}
use Rattle.c_language.specs.declared.operators.Selector.{Selector}
use Rattle.c_language.specs.declared.operators.Selector.TheVariants.{Dot, Arrow}

pub tightness-Constant : (text : Bytes) → tightness (e.Constant text) ≡ 15
tightness-Constant text = ap tightness (sym (e.rolls-Constant text)) ∙ fold-roll-RawExpr ℕ tightness_step (RawExpr-F.Constant text)

pub tightness-Null : tightness e.Null ≡ 15
tightness-Null = ap tightness (sym e.rolls-Null) ∙ fold-roll-RawExpr ℕ tightness_step RawExpr-F.Null

pub tightness-Eof : tightness e.Eof ≡ 15
tightness-Eof = ap tightness (sym e.rolls-Eof) ∙ fold-roll-RawExpr ℕ tightness_step RawExpr-F.Eof

pub tightness-Variable : (text : Bytes) → tightness (e.Variable text) ≡ 15
tightness-Variable text = ap tightness (sym (e.rolls-Variable text)) ∙ fold-roll-RawExpr ℕ tightness_step (RawExpr-F.Variable text)

pub tightness-Unary : (op : UnaryOp) (a : RawExpr) → tightness (e.Unary op a) ≡ 13
tightness-Unary op a = ap tightness (sym (e.rolls-Unary op a)) ∙ fold-roll-RawExpr ℕ tightness_step (RawExpr-F.Unary op a)

pub tightness-Deref : (a : RawExpr) → tightness (e.Deref a) ≡ 13
tightness-Deref a = ap tightness (sym (e.rolls-Deref a)) ∙ fold-roll-RawExpr ℕ tightness_step (RawExpr-F.Deref a)

pub tightness-AddressOf : (a : RawExpr) → tightness (e.AddressOf a) ≡ 13
tightness-AddressOf a = ap tightness (sym (e.rolls-AddressOf a)) ∙ fold-roll-RawExpr ℕ tightness_step (RawExpr-F.AddressOf a)

pub tightness-Binary : (op : BinaryOp) (a b : RawExpr) → tightness (e.Binary op a b) ≡ binary_level op
tightness-Binary op a b = ap tightness (sym (e.rolls-Binary op a b)) ∙ fold-roll-RawExpr ℕ tightness_step (RawExpr-F.Binary op a b)

pub tightness-AndAlso : (a b : RawExpr) → tightness (e.AndAlso a b) ≡ 3
tightness-AndAlso a b = ap tightness (sym (e.rolls-AndAlso a b)) ∙ fold-roll-RawExpr ℕ tightness_step (RawExpr-F.AndAlso a b)

pub tightness-OrElse : (a b : RawExpr) → tightness (e.OrElse a b) ≡ 2
tightness-OrElse a b = ap tightness (sym (e.rolls-OrElse a b)) ∙ fold-roll-RawExpr ℕ tightness_step (RawExpr-F.OrElse a b)

pub tightness-Choose : (c a b : RawExpr) → tightness (e.Choose c a b) ≡ 1
tightness-Choose c a b = ap tightness (sym (e.rolls-Choose c a b)) ∙ fold-roll-RawExpr ℕ tightness_step (RawExpr-F.Choose c a b)

pub tightness-Cast : (t : IntType) (a : RawExpr) → tightness (e.Cast t a) ≡ 12
tightness-Cast t a = ap tightness (sym (e.rolls-Cast t a)) ∙ fold-roll-RawExpr ℕ tightness_step (RawExpr-F.Cast t a)

pub tightness-Index : (a i : RawExpr) → tightness (e.Index a i) ≡ 14
tightness-Index a i = ap tightness (sym (e.rolls-Index a i)) ∙ fold-roll-RawExpr ℕ tightness_step (RawExpr-F.Index a i)

pub tightness-Member : (a : RawExpr) (m : Bytes) → tightness (e.Member a m) ≡ 14
tightness-Member a m = ap tightness (sym (e.rolls-Member a m)) ∙ fold-roll-RawExpr ℕ tightness_step (RawExpr-F.Member a m)

pub tightness-Arrow : (a : RawExpr) (m : Bytes) → tightness (e.Arrow a m) ≡ 14
tightness-Arrow a m = ap tightness (sym (e.rolls-Arrow a m)) ∙ fold-roll-RawExpr ℕ tightness_step (RawExpr-F.Arrow a m)

pub tightness-Paren : (a : RawExpr) → tightness (e.Paren a) ≡ 15
tightness-Paren a = ap tightness (sym (e.rolls-Paren a)) ∙ fold-roll-RawExpr ℕ tightness_step (RawExpr-F.Paren a)

pub tightness-joint : (op : Infix) (a b : RawExpr) → tightness (joint op a b) ≡ level op
tightness-joint (Strict op) a b = tightness-Binary op a b
tightness-joint AndAlso a b = tightness-AndAlso a b
tightness-joint OrElse a b = tightness-OrElse a b

pub tightness-applied : (op : Prefix) (a : RawExpr) → tightness (applied op a) ≡ 13
tightness-applied (Sign op) a = tightness-Unary op a
tightness-applied Deref a = tightness-Deref a
tightness-applied AddressOf a = tightness-AddressOf a

pub tightness-selected : (by : Selector) (a : RawExpr) (m : Bytes) → tightness (selected by a m) ≡ 14
tightness-selected Dot a m = tightness-Member a m
tightness-selected Arrow a m = tightness-Arrow a m
