-- The types of each form of declared type and of expression, as equations.
use Rattle.std.proofs.Common.{◌≡◌, ℕ, sym, ap, ◌∙◌}
use Rattle.c_arith.specs.declared.int_type.IntType.{IntType}
use Rattle.c_arith.specs.declared.operators.UnaryOp.{UnaryOp}
use Rattle.c_arith.specs.declared.operators.BinaryOp.{BinaryOp}
use Rattle.c_tree.specs.declared.types.CType.{CType, fold-roll-CType}
use Rattle.c_tree.specs.declared.types.CType.TheOpen.{CType-F}
use Rattle.c_tree.specs.declared.types.CType.TheVariants as type
use Rattle.c_tree.specs.declared.expr.MemberId.{MemberId}
use Rattle.c_tree.specs.declared.expr.Expr.{Expr, fold-roll-Expr}
use Rattle.c_tree.specs.declared.expr.Expr.TheOpen.{Expr-F}
use Rattle.c_tree.specs.declared.expr.Expr.TheVariants as e
use Rattle.c_tree.specs.declared.program.Program.{Program}
use Rattle.c_language.specs.Words.{Bytes}
use Rattle.c_language.specs.TreeTypes.{shape_step, shape_of, tree_type_step, tree_type}
use Rattle.c_language.specs.declared.expr_type.ExprType.{ExprType}

pub shape-Integer : (t : IntType) → shape_of (type.Integer t) ≡ shape_step (CType-F.Integer t)
shape-Integer t = ap shape_of (sym (type.rolls-Integer t)) ∙ fold-roll-CType ExprType shape_step (CType-F.Integer t)

pub shape-PointerTo : (a : CType) → shape_of (type.PointerTo a) ≡ shape_step (CType-F.PointerTo (shape_of a))
shape-PointerTo a = ap shape_of (sym (type.rolls-PointerTo a)) ∙ fold-roll-CType ExprType shape_step (CType-F.PointerTo a)

pub shape-Array : (a : CType) (n : ℕ) (words : Bytes) → shape_of (type.Array a n words) ≡ shape_step (CType-F.Array (shape_of a) n words)
shape-Array a n words = ap shape_of (sym (type.rolls-Array a n words)) ∙ fold-roll-CType ExprType shape_step (CType-F.Array a n words)

pub shape-Struct : (s : ℕ) → shape_of (type.Struct s) ≡ shape_step (CType-F.Struct s)
shape-Struct s = ap shape_of (sym (type.rolls-Struct s)) ∙ fold-roll-CType ExprType shape_step (CType-F.Struct s)

pub ruleset shapes_of = (shape-Integer, shape-PointerTo, shape-Array, shape-Struct)

module _ (p : Program) where
  pub type-Constant : (text : Bytes) (t : IntType) (v : ℕ) → tree_type p (e.Constant text t v) ≡ tree_type_step p (Expr-F.Constant text t v)
  type-Constant text t v = ap (tree_type p) (sym (e.rolls-Constant text t v)) ∙ fold-roll-Expr ExprType (tree_type_step p) (Expr-F.Constant text t v)

  pub type-Null : tree_type p e.Null ≡ tree_type_step p Expr-F.Null
  type-Null = ap (tree_type p) (sym e.rolls-Null) ∙ fold-roll-Expr ExprType (tree_type_step p) Expr-F.Null

  pub type-Eof : tree_type p e.Eof ≡ tree_type_step p Expr-F.Eof
  type-Eof = ap (tree_type p) (sym e.rolls-Eof) ∙ fold-roll-Expr ExprType (tree_type_step p) Expr-F.Eof

  pub type-Variable : (x : ℕ) → tree_type p (e.Variable x) ≡ tree_type_step p (Expr-F.Variable x)
  type-Variable x = ap (tree_type p) (sym (e.rolls-Variable x)) ∙ fold-roll-Expr ExprType (tree_type_step p) (Expr-F.Variable x)

  pub type-Unary : (op : UnaryOp) (a : Expr) → tree_type p (e.Unary op a) ≡ tree_type_step p (Expr-F.Unary op (tree_type p a))
  type-Unary op a = ap (tree_type p) (sym (e.rolls-Unary op a)) ∙ fold-roll-Expr ExprType (tree_type_step p) (Expr-F.Unary op a)

  pub type-Deref : (a : Expr) → tree_type p (e.Deref a) ≡ tree_type_step p (Expr-F.Deref (tree_type p a))
  type-Deref a = ap (tree_type p) (sym (e.rolls-Deref a)) ∙ fold-roll-Expr ExprType (tree_type_step p) (Expr-F.Deref a)

  pub type-AddressOf : (a : Expr) → tree_type p (e.AddressOf a) ≡ tree_type_step p (Expr-F.AddressOf (tree_type p a))
  type-AddressOf a = ap (tree_type p) (sym (e.rolls-AddressOf a)) ∙ fold-roll-Expr ExprType (tree_type_step p) (Expr-F.AddressOf a)

  pub type-Binary : (op : BinaryOp) (a b : Expr) → tree_type p (e.Binary op a b) ≡ tree_type_step p (Expr-F.Binary op (tree_type p a) (tree_type p b))
  type-Binary op a b = ap (tree_type p) (sym (e.rolls-Binary op a b)) ∙ fold-roll-Expr ExprType (tree_type_step p) (Expr-F.Binary op a b)

  pub type-AndAlso : (a b : Expr) → tree_type p (e.AndAlso a b) ≡ tree_type_step p (Expr-F.AndAlso (tree_type p a) (tree_type p b))
  type-AndAlso a b = ap (tree_type p) (sym (e.rolls-AndAlso a b)) ∙ fold-roll-Expr ExprType (tree_type_step p) (Expr-F.AndAlso a b)

  pub type-OrElse : (a b : Expr) → tree_type p (e.OrElse a b) ≡ tree_type_step p (Expr-F.OrElse (tree_type p a) (tree_type p b))
  type-OrElse a b = ap (tree_type p) (sym (e.rolls-OrElse a b)) ∙ fold-roll-Expr ExprType (tree_type_step p) (Expr-F.OrElse a b)

  pub type-Choose : (c a b : Expr) → tree_type p (e.Choose c a b) ≡ tree_type_step p (Expr-F.Choose (tree_type p c) (tree_type p a) (tree_type p b))
  type-Choose c a b = ap (tree_type p) (sym (e.rolls-Choose c a b)) ∙ fold-roll-Expr ExprType (tree_type_step p) (Expr-F.Choose c a b)

  pub type-Cast : (t : IntType) (a : Expr) → tree_type p (e.Cast t a) ≡ tree_type_step p (Expr-F.Cast t (tree_type p a))
  type-Cast t a = ap (tree_type p) (sym (e.rolls-Cast t a)) ∙ fold-roll-Expr ExprType (tree_type_step p) (Expr-F.Cast t a)

  pub type-Index : (a i : Expr) → tree_type p (e.Index a i) ≡ tree_type_step p (Expr-F.Index (tree_type p a) (tree_type p i))
  type-Index a i = ap (tree_type p) (sym (e.rolls-Index a i)) ∙ fold-roll-Expr ExprType (tree_type_step p) (Expr-F.Index a i)

  pub type-Member : (a : Expr) (m : MemberId) → tree_type p (e.Member a m) ≡ tree_type_step p (Expr-F.Member (tree_type p a) m)
  type-Member a m = ap (tree_type p) (sym (e.rolls-Member a m)) ∙ fold-roll-Expr ExprType (tree_type_step p) (Expr-F.Member a m)

  pub type-Arrow : (a : Expr) (m : MemberId) → tree_type p (e.Arrow a m) ≡ tree_type_step p (Expr-F.Arrow (tree_type p a) m)
  type-Arrow a m = ap (tree_type p) (sym (e.rolls-Arrow a m)) ∙ fold-roll-Expr ExprType (tree_type_step p) (Expr-F.Arrow a m)

  pub type-Paren : (a : Expr) → tree_type p (e.Paren a) ≡ tree_type_step p (Expr-F.Paren (tree_type p a))
  type-Paren a = ap (tree_type p) (sym (e.rolls-Paren a)) ∙ fold-roll-Expr ExprType (tree_type_step p) (Expr-F.Paren a)

pub ruleset types_of = (type-Constant, type-Null, type-Eof, type-Variable, type-Unary, type-Deref, type-AddressOf, type-Binary, type-AndAlso, type-OrElse, type-Choose, type-Cast, type-Index, type-Member, type-Arrow, type-Paren)
