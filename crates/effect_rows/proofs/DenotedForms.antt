-- What each form of expression denotes, as equations.
use Rattle.std.proofs.Common.{◌≡◌, ℕ, sym, ap, ◌∙◌}
use Rattle.c_arith.specs.declared.int_type.IntType.{IntType}
use Rattle.c_arith.specs.declared.operators.UnaryOp.{UnaryOp}
use Rattle.c_arith.specs.declared.operators.BinaryOp.{BinaryOp}
use Rattle.c_tree.specs.declared.expr.MemberId.{MemberId}
use Rattle.c_tree.specs.declared.expr.Expr.{Expr, fold-roll-Expr}
use Rattle.c_tree.specs.declared.expr.Expr.TheOpen.{Expr-F}
use Rattle.c_tree.specs.declared.expr.Expr.TheVariants as e
use Rattle.c_tree.specs.declared.program.Program.{Program}
use Rattle.c_language.specs.Words.{Bytes}
use Rattle.dep_model.specs.Denoted.{TargetsOf, Denoted, denoted, denoted_step}

module _ (p : Program) (points : TargetsOf) where
  abbrev den : Expr → Denoted
  den = denoted p points

  pub denotes-Constant : (text : Bytes) (k : IntType) (v : ℕ) → den (e.Constant text k v) ≡ denoted_step p points (Expr-F.Constant text k v)
  denotes-Constant text k v = ap den (sym (e.rolls-Constant text k v)) ∙ fold-roll-Expr Denoted (denoted_step p points) (Expr-F.Constant text k v)

  pub denotes-Null : den e.Null ≡ denoted_step p points Expr-F.Null
  denotes-Null = ap den (sym e.rolls-Null) ∙ fold-roll-Expr Denoted (denoted_step p points) Expr-F.Null

  pub denotes-Eof : den e.Eof ≡ denoted_step p points Expr-F.Eof
  denotes-Eof = ap den (sym e.rolls-Eof) ∙ fold-roll-Expr Denoted (denoted_step p points) Expr-F.Eof

  pub denotes-Variable : (x : ℕ) → den (e.Variable x) ≡ denoted_step p points (Expr-F.Variable x)
  denotes-Variable x = ap den (sym (e.rolls-Variable x)) ∙ fold-roll-Expr Denoted (denoted_step p points) (Expr-F.Variable x)

  pub denotes-Unary : (op : UnaryOp) (a : Expr) → den (e.Unary op a) ≡ denoted_step p points (Expr-F.Unary op (den a))
  denotes-Unary op a = ap den (sym (e.rolls-Unary op a)) ∙ fold-roll-Expr Denoted (denoted_step p points) (Expr-F.Unary op a)

  pub denotes-Deref : (a : Expr) → den (e.Deref a) ≡ denoted_step p points (Expr-F.Deref (den a))
  denotes-Deref a = ap den (sym (e.rolls-Deref a)) ∙ fold-roll-Expr Denoted (denoted_step p points) (Expr-F.Deref a)

  pub denotes-AddressOf : (a : Expr) → den (e.AddressOf a) ≡ denoted_step p points (Expr-F.AddressOf (den a))
  denotes-AddressOf a = ap den (sym (e.rolls-AddressOf a)) ∙ fold-roll-Expr Denoted (denoted_step p points) (Expr-F.AddressOf a)

  pub denotes-Binary : (op : BinaryOp) (a b : Expr) → den (e.Binary op a b) ≡ denoted_step p points (Expr-F.Binary op (den a) (den b))
  denotes-Binary op a b = ap den (sym (e.rolls-Binary op a b)) ∙ fold-roll-Expr Denoted (denoted_step p points) (Expr-F.Binary op a b)

  pub denotes-AndAlso : (a b : Expr) → den (e.AndAlso a b) ≡ denoted_step p points (Expr-F.AndAlso (den a) (den b))
  denotes-AndAlso a b = ap den (sym (e.rolls-AndAlso a b)) ∙ fold-roll-Expr Denoted (denoted_step p points) (Expr-F.AndAlso a b)

  pub denotes-OrElse : (a b : Expr) → den (e.OrElse a b) ≡ denoted_step p points (Expr-F.OrElse (den a) (den b))
  denotes-OrElse a b = ap den (sym (e.rolls-OrElse a b)) ∙ fold-roll-Expr Denoted (denoted_step p points) (Expr-F.OrElse a b)

  pub denotes-Choose : (c a b : Expr) → den (e.Choose c a b) ≡ denoted_step p points (Expr-F.Choose (den c) (den a) (den b))
  denotes-Choose c a b = ap den (sym (e.rolls-Choose c a b)) ∙ fold-roll-Expr Denoted (denoted_step p points) (Expr-F.Choose c a b)

  pub denotes-Cast : (k : IntType) (a : Expr) → den (e.Cast k a) ≡ denoted_step p points (Expr-F.Cast k (den a))
  denotes-Cast k a = ap den (sym (e.rolls-Cast k a)) ∙ fold-roll-Expr Denoted (denoted_step p points) (Expr-F.Cast k a)

  pub denotes-Index : (a i : Expr) → den (e.Index a i) ≡ denoted_step p points (Expr-F.Index (den a) (den i))
  denotes-Index a i = ap den (sym (e.rolls-Index a i)) ∙ fold-roll-Expr Denoted (denoted_step p points) (Expr-F.Index a i)

  pub denotes-Member : (a : Expr) (m : MemberId) → den (e.Member a m) ≡ denoted_step p points (Expr-F.Member (den a) m)
  denotes-Member a m = ap den (sym (e.rolls-Member a m)) ∙ fold-roll-Expr Denoted (denoted_step p points) (Expr-F.Member a m)

  pub denotes-Arrow : (a : Expr) (m : MemberId) → den (e.Arrow a m) ≡ denoted_step p points (Expr-F.Arrow (den a) m)
  denotes-Arrow a m = ap den (sym (e.rolls-Arrow a m)) ∙ fold-roll-Expr Denoted (denoted_step p points) (Expr-F.Arrow a m)

  pub denotes-Paren : (a : Expr) → den (e.Paren a) ≡ denoted_step p points (Expr-F.Paren (den a))
  denotes-Paren a = ap den (sym (e.rolls-Paren a)) ∙ fold-roll-Expr Denoted (denoted_step p points) (Expr-F.Paren a)

pub ruleset denoted_of = (denotes-Constant, denotes-Null, denotes-Eof, denotes-Variable, denotes-Unary, denotes-Deref, denotes-AddressOf, denotes-Binary, denotes-AndAlso, denotes-OrElse, denotes-Choose, denotes-Cast, denotes-Index, denotes-Member, denotes-Arrow, denotes-Paren)
