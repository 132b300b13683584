-- What each form of expression designates, as equations.
use Rattle.std.proofs.Common.{◌≡◌, ℕ, sym, ap, ◌∙◌}
use Rattle.c_arith.specs.declared.int_type.IntType.{IntType}
use Rattle.c_arith.specs.declared.operators.UnaryOp.{UnaryOp}
use Rattle.c_arith.specs.declared.operators.BinaryOp.{BinaryOp}
use Rattle.c_tree.specs.declared.expr.MemberId.{MemberId}
use Rattle.c_tree.specs.declared.expr.Expr.{Expr, fold-roll-Expr}
use Rattle.c_tree.specs.declared.expr.Expr.TheOpen.{Expr-F}
use Rattle.c_tree.specs.declared.expr.Expr.TheVariants as e
use Rattle.c_tree.specs.declared.program.Program.{Program}
use Rattle.c_language.specs.Words.{Bytes}
use Rattle.dep_model.specs.Designated.{Designated, designated, designated_step}

module _ (p : Program) where
  abbrev des : Expr → Designated
  des = designated p

  pub designates-Constant : (text : Bytes) (k : IntType) (v : ℕ) → des (e.Constant text k v) ≡ designated_step p (Expr-F.Constant text k v)
  designates-Constant text k v = ap des (sym (e.rolls-Constant text k v)) ∙ fold-roll-Expr Designated (designated_step p) (Expr-F.Constant text k v)

  pub designates-Null : des e.Null ≡ designated_step p Expr-F.Null
  designates-Null = ap des (sym e.rolls-Null) ∙ fold-roll-Expr Designated (designated_step p) Expr-F.Null

  pub designates-Eof : des e.Eof ≡ designated_step p Expr-F.Eof
  designates-Eof = ap des (sym e.rolls-Eof) ∙ fold-roll-Expr Designated (designated_step p) Expr-F.Eof

  pub designates-Variable : (x : ℕ) → des (e.Variable x) ≡ designated_step p (Expr-F.Variable x)
  designates-Variable x = ap des (sym (e.rolls-Variable x)) ∙ fold-roll-Expr Designated (designated_step p) (Expr-F.Variable x)

  pub designates-Unary : (op : UnaryOp) (a : Expr) → des (e.Unary op a) ≡ designated_step p (Expr-F.Unary op (des a))
  designates-Unary op a = ap des (sym (e.rolls-Unary op a)) ∙ fold-roll-Expr Designated (designated_step p) (Expr-F.Unary op a)

  pub designates-Deref : (a : Expr) → des (e.Deref a) ≡ designated_step p (Expr-F.Deref (des a))
  designates-Deref a = ap des (sym (e.rolls-Deref a)) ∙ fold-roll-Expr Designated (designated_step p) (Expr-F.Deref a)

  pub designates-AddressOf : (a : Expr) → des (e.AddressOf a) ≡ designated_step p (Expr-F.AddressOf (des a))
  designates-AddressOf a = ap des (sym (e.rolls-AddressOf a)) ∙ fold-roll-Expr Designated (designated_step p) (Expr-F.AddressOf a)

  pub designates-Binary : (op : BinaryOp) (a b : Expr) → des (e.Binary op a b) ≡ designated_step p (Expr-F.Binary op (des a) (des b))
  designates-Binary op a b = ap des (sym (e.rolls-Binary op a b)) ∙ fold-roll-Expr Designated (designated_step p) (Expr-F.Binary op a b)

  pub designates-AndAlso : (a b : Expr) → des (e.AndAlso a b) ≡ designated_step p (Expr-F.AndAlso (des a) (des b))
  designates-AndAlso a b = ap des (sym (e.rolls-AndAlso a b)) ∙ fold-roll-Expr Designated (designated_step p) (Expr-F.AndAlso a b)

  pub designates-OrElse : (a b : Expr) → des (e.OrElse a b) ≡ designated_step p (Expr-F.OrElse (des a) (des b))
  designates-OrElse a b = ap des (sym (e.rolls-OrElse a b)) ∙ fold-roll-Expr Designated (designated_step p) (Expr-F.OrElse a b)

  pub designates-Choose : (c a b : Expr) → des (e.Choose c a b) ≡ designated_step p (Expr-F.Choose (des c) (des a) (des b))
  designates-Choose c a b = ap des (sym (e.rolls-Choose c a b)) ∙ fold-roll-Expr Designated (designated_step p) (Expr-F.Choose c a b)

  pub designates-Cast : (k : IntType) (a : Expr) → des (e.Cast k a) ≡ designated_step p (Expr-F.Cast k (des a))
  designates-Cast k a = ap des (sym (e.rolls-Cast k a)) ∙ fold-roll-Expr Designated (designated_step p) (Expr-F.Cast k a)

  pub designates-Index : (a i : Expr) → des (e.Index a i) ≡ designated_step p (Expr-F.Index (des a) (des i))
  designates-Index a i = ap des (sym (e.rolls-Index a i)) ∙ fold-roll-Expr Designated (designated_step p) (Expr-F.Index a i)

  pub designates-Member : (a : Expr) (m : MemberId) → des (e.Member a m) ≡ designated_step p (Expr-F.Member (des a) m)
  designates-Member a m = ap des (sym (e.rolls-Member a m)) ∙ fold-roll-Expr Designated (designated_step p) (Expr-F.Member a m)

  pub designates-Arrow : (a : Expr) (m : MemberId) → des (e.Arrow a m) ≡ designated_step p (Expr-F.Arrow (des a) m)
  designates-Arrow a m = ap des (sym (e.rolls-Arrow a m)) ∙ fold-roll-Expr Designated (designated_step p) (Expr-F.Arrow a m)

  pub designates-Paren : (a : Expr) → des (e.Paren a) ≡ designated_step p (Expr-F.Paren (des a))
  designates-Paren a = ap des (sym (e.rolls-Paren a)) ∙ fold-roll-Expr Designated (designated_step p) (Expr-F.Paren a)

pub ruleset designated_of = (designates-Constant, designates-Null, designates-Eof, designates-Variable, designates-Unary, designates-Deref, designates-AddressOf, designates-Binary, designates-AndAlso, designates-OrElse, designates-Choose, designates-Cast, designates-Index, designates-Member, designates-Arrow, designates-Paren)
