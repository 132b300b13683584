-- The judgement of each form of expression, as equations.
use Rattle.std.proofs.Common.{◌≡◌, ℕ, sym, ap, ◌∙◌, Result}
use Rattle.c_arith.specs.declared.int_type.IntType.{IntType}
use Rattle.c_arith.specs.declared.operators.UnaryOp.{UnaryOp}
use Rattle.c_arith.specs.declared.operators.BinaryOp.{BinaryOp}
use Rattle.c_tree.specs.declared.raw.expr.RawExpr.{RawExpr, fold-roll-RawExpr}
use Rattle.c_tree.specs.declared.raw.expr.RawExpr.TheOpen.{RawExpr-F}
use Rattle.c_tree.specs.declared.raw.expr.RawExpr.TheVariants as e
use Rattle.c_language.specs.Words.{Bytes}
use Rattle.c_tree.specs.declared.raw.program.RawProgram.{RawProgram}
use Rattle.c_language.specs.Scopes.{Scope}
use Rattle.c_types_base.specs.Judging.{judged, judge_step}
use Rattle.c_language.specs.declared.expr_type.Operand.{Operand}

pub judged-Constant : (raw : RawProgram) (scope : Scope) (text : Bytes) → judged raw scope (e.Constant text) ≡ judge_step raw scope (RawExpr-F.Constant text)
judged-Constant raw scope text = ap (judged raw scope) (sym (e.rolls-Constant text)) ∙ fold-roll-RawExpr (Result Operand ℕ) (judge_step raw scope) (RawExpr-F.Constant text)

pub judged-Null : (raw : RawProgram) (scope : Scope) → judged raw scope e.Null ≡ judge_step raw scope RawExpr-F.Null
judged-Null raw scope = ap (judged raw scope) (sym e.rolls-Null) ∙ fold-roll-RawExpr (Result Operand ℕ) (judge_step raw scope) RawExpr-F.Null

pub judged-Eof : (raw : RawProgram) (scope : Scope) → judged raw scope e.Eof ≡ judge_step raw scope RawExpr-F.Eof
judged-Eof raw scope = ap (judged raw scope) (sym e.rolls-Eof) ∙ fold-roll-RawExpr (Result Operand ℕ) (judge_step raw scope) RawExpr-F.Eof

pub judged-Variable : (raw : RawProgram) (scope : Scope) (name : Bytes) → judged raw scope (e.Variable name) ≡ judge_step raw scope (RawExpr-F.Variable name)
judged-Variable raw scope name = ap (judged raw scope) (sym (e.rolls-Variable name)) ∙ fold-roll-RawExpr (Result Operand ℕ) (judge_step raw scope) (RawExpr-F.Variable name)

pub judged-Unary : (raw : RawProgram) (scope : Scope) (op : UnaryOp) (a : RawExpr) → judged raw scope (e.Unary op a) ≡ judge_step raw scope (RawExpr-F.Unary op (judged raw scope a))
judged-Unary raw scope op a = ap (judged raw scope) (sym (e.rolls-Unary op a)) ∙ fold-roll-RawExpr (Result Operand ℕ) (judge_step raw scope) (RawExpr-F.Unary op a)

pub judged-Deref : (raw : RawProgram) (scope : Scope) (a : RawExpr) → judged raw scope (e.Deref a) ≡ judge_step raw scope (RawExpr-F.Deref (judged raw scope a))
judged-Deref raw scope a = ap (judged raw scope) (sym (e.rolls-Deref a)) ∙ fold-roll-RawExpr (Result Operand ℕ) (judge_step raw scope) (RawExpr-F.Deref a)

pub judged-AddressOf : (raw : RawProgram) (scope : Scope) (a : RawExpr) → judged raw scope (e.AddressOf a) ≡ judge_step raw scope (RawExpr-F.AddressOf (judged raw scope a))
judged-AddressOf raw scope a = ap (judged raw scope) (sym (e.rolls-AddressOf a)) ∙ fold-roll-RawExpr (Result Operand ℕ) (judge_step raw scope) (RawExpr-F.AddressOf a)

pub judged-Binary : (raw : RawProgram) (scope : Scope) (op : BinaryOp) (a b : RawExpr) → judged raw scope (e.Binary op a b) ≡ judge_step raw scope (RawExpr-F.Binary op (judged raw scope a) (judged raw scope b))
judged-Binary raw scope op a b = ap (judged raw scope) (sym (e.rolls-Binary op a b)) ∙ fold-roll-RawExpr (Result Operand ℕ) (judge_step raw scope) (RawExpr-F.Binary op a b)

pub judged-AndAlso : (raw : RawProgram) (scope : Scope) (a b : RawExpr) → judged raw scope (e.AndAlso a b) ≡ judge_step raw scope (RawExpr-F.AndAlso (judged raw scope a) (judged raw scope b))
judged-AndAlso raw scope a b = ap (judged raw scope) (sym (e.rolls-AndAlso a b)) ∙ fold-roll-RawExpr (Result Operand ℕ) (judge_step raw scope) (RawExpr-F.AndAlso a b)

pub judged-OrElse : (raw : RawProgram) (scope : Scope) (a b : RawExpr) → judged raw scope (e.OrElse a b) ≡ judge_step raw scope (RawExpr-F.OrElse (judged raw scope a) (judged raw scope b))
judged-OrElse raw scope a b = ap (judged raw scope) (sym (e.rolls-OrElse a b)) ∙ fold-roll-RawExpr (Result Operand ℕ) (judge_step raw scope) (RawExpr-F.OrElse a b)

pub judged-Choose : (raw : RawProgram) (scope : Scope) (c a b : RawExpr) → judged raw scope (e.Choose c a b) ≡ judge_step raw scope (RawExpr-F.Choose (judged raw scope c) (judged raw scope a) (judged raw scope b))
judged-Choose raw scope c a b = ap (judged raw scope) (sym (e.rolls-Choose c a b)) ∙ fold-roll-RawExpr (Result Operand ℕ) (judge_step raw scope) (RawExpr-F.Choose c a b)

pub judged-Cast : (raw : RawProgram) (scope : Scope) (t : IntType) (a : RawExpr) → judged raw scope (e.Cast t a) ≡ judge_step raw scope (RawExpr-F.Cast t (judged raw scope a))
judged-Cast raw scope t a = ap (judged raw scope) (sym (e.rolls-Cast t a)) ∙ fold-roll-RawExpr (Result Operand ℕ) (judge_step raw scope) (RawExpr-F.Cast t a)

pub judged-Index : (raw : RawProgram) (scope : Scope) (a i : RawExpr) → judged raw scope (e.Index a i) ≡ judge_step raw scope (RawExpr-F.Index (judged raw scope a) (judged raw scope i))
judged-Index raw scope a i = ap (judged raw scope) (sym (e.rolls-Index a i)) ∙ fold-roll-RawExpr (Result Operand ℕ) (judge_step raw scope) (RawExpr-F.Index a i)

pub judged-Member : (raw : RawProgram) (scope : Scope) (a : RawExpr) (m : Bytes) → judged raw scope (e.Member a m) ≡ judge_step raw scope (RawExpr-F.Member (judged raw scope a) m)
judged-Member raw scope a m = ap (judged raw scope) (sym (e.rolls-Member a m)) ∙ fold-roll-RawExpr (Result Operand ℕ) (judge_step raw scope) (RawExpr-F.Member a m)

pub judged-Arrow : (raw : RawProgram) (scope : Scope) (a : RawExpr) (m : Bytes) → judged raw scope (e.Arrow a m) ≡ judge_step raw scope (RawExpr-F.Arrow (judged raw scope a) m)
judged-Arrow raw scope a m = ap (judged raw scope) (sym (e.rolls-Arrow a m)) ∙ fold-roll-RawExpr (Result Operand ℕ) (judge_step raw scope) (RawExpr-F.Arrow a m)

pub judged-Paren : (raw : RawProgram) (scope : Scope) (a : RawExpr) → judged raw scope (e.Paren a) ≡ judge_step raw scope (RawExpr-F.Paren (judged raw scope a))
judged-Paren raw scope a = ap (judged raw scope) (sym (e.rolls-Paren a)) ∙ fold-roll-RawExpr (Result Operand ℕ) (judge_step raw scope) (RawExpr-F.Paren a)

pub ruleset judgements_of = (judged-Constant, judged-Null, judged-Eof, judged-Variable, judged-Unary, judged-Deref, judged-AddressOf, judged-Binary, judged-AndAlso, judged-OrElse, judged-Choose, judged-Cast, judged-Index, judged-Member, judged-Arrow, judged-Paren)
