-- What each form of expression gives, as equations: its type is that of the tree, and its value, its object and its address are
-- given by those of its parts.
use Rattle.std.proofs.Common.{◌≡◌, ℕ, refl, sym, ap, ap₂, ◌∙◌}
use Rattle.c_arith.specs.declared.int_type.IntType.{IntType}
use Rattle.c_arith.specs.declared.operators.UnaryOp.{UnaryOp}
use Rattle.c_arith.specs.declared.operators.BinaryOp.{BinaryOp}
use Rattle.c_tree.specs.declared.expr.MemberId.{MemberId}
use Rattle.c_tree.specs.declared.expr.Expr.{Expr, fold-roll-Expr, roll-Expr, map-Expr}
use Rattle.c_tree.specs.declared.expr.Expr.TheOpen.{Expr-F}
use Rattle.c_tree.specs.declared.expr.Expr.TheVariants as e
use Rattle.c_tree.specs.declared.program.Program.{Program}
use Rattle.c_tree.proofs.Trees.{of_every_expr, ExprParts, expr_layer}
use Rattle.c_language.specs.Words.{Bytes}
use Rattle.c_language.specs.TreeTypes.{tree_type, tree_type_step, typed_step, binary_tree_type, chosen_type}
use Rattle.c_language.specs.declared.expr_type.ExprType.{ExprType}
use Rattle.c_meaning.specs.Values.{Meant, meant, meant_step}
use Rattle.c_memory.specs.Scenes.{types_of}

module _ (p : Program) where
  -- ---- types

  abbrev means : Expr → Meant
  means = meant (types_of p)

  abbrev of : Expr-F Expr → Expr-F Meant
  of = map-Expr Expr Meant means

  meant_layer : (z : Expr-F Expr) → means (roll-Expr z) ≡ meant_step (types_of p) (of z)
  meant_layer z = fold-roll-Expr Meant (meant_step (types_of p)) z

  type_layer : (z : Expr-F Expr) → tree_type p (roll-Expr z) ≡ tree_type_step p (map-Expr Expr ExprType (tree_type p) z)
  type_layer z = fold-roll-Expr ExprType (tree_type_step p) z

  abbrev IsTyped : Expr → Type 0
  IsTyped a = tree_type p a ≡ (means a).type

  layer_typed : (y : ExprParts IsTyped) → tree_type_step p (map-Expr Expr ExprType (tree_type p) (expr_layer IsTyped y)) ≡ (meant_step (types_of p) (of (expr_layer IsTyped y))).type
  layer_typed (Expr-F.Constant text t v) = refl
  layer_typed Expr-F.Null = refl
  layer_typed Expr-F.Eof = refl
  layer_typed (Expr-F.Variable x) = refl
  layer_typed (Expr-F.Unary op a) = ap (λ (t : ExprType). typed_step (types_of p).typing (Expr-F.Unary op t)) a.1
  layer_typed (Expr-F.Deref a) = ap (λ (t : ExprType). typed_step (types_of p).typing (Expr-F.Deref t)) a.1
  layer_typed (Expr-F.AddressOf a) = ap (λ (t : ExprType). typed_step (types_of p).typing (Expr-F.AddressOf t)) a.1
  layer_typed (Expr-F.Binary op a b) = ap₂ (binary_tree_type op) a.1 b.1
  layer_typed (Expr-F.AndAlso a b) = refl
  layer_typed (Expr-F.OrElse a b) = refl
  layer_typed (Expr-F.Choose c a b) = ap₂ chosen_type a.1 b.1
  layer_typed (Expr-F.Cast t a) = refl
  layer_typed (Expr-F.Index a i) = ap (λ (t : ExprType). typed_step (types_of p).typing (Expr-F.Deref t)) a.1
  layer_typed (Expr-F.Member a m) = refl
  layer_typed (Expr-F.Arrow a m) = refl
  layer_typed (Expr-F.Paren a) = a.1

  -- the type of an expression is that of the tree
  pub typed : (a : Expr) → tree_type p a ≡ (meant (types_of p) a).type
  typed = of_every_expr IsTyped (λ y. type_layer (expr_layer IsTyped y) ∙ layer_typed y ∙ sym (ap (λ (m : Meant). m.type) (meant_layer (expr_layer IsTyped y))))

  -- ---- forms

  pub means-Constant : (text : Bytes) (t : IntType) (v : ℕ) → meant (types_of p) (e.Constant text t v) ≡ meant_step (types_of p) (Expr-F.Constant text t v)
  means-Constant text t v = ap means (sym (e.rolls-Constant text t v)) ∙ meant_layer (Expr-F.Constant text t v)

  pub means-Null : meant (types_of p) e.Null ≡ meant_step (types_of p) Expr-F.Null
  means-Null = ap means (sym e.rolls-Null) ∙ meant_layer Expr-F.Null

  pub means-Eof : meant (types_of p) e.Eof ≡ meant_step (types_of p) Expr-F.Eof
  means-Eof = ap means (sym e.rolls-Eof) ∙ meant_layer Expr-F.Eof

  pub means-Variable : (x : ℕ) → meant (types_of p) (e.Variable x) ≡ meant_step (types_of p) (Expr-F.Variable x)
  means-Variable x = ap means (sym (e.rolls-Variable x)) ∙ meant_layer (Expr-F.Variable x)

  pub means-Unary : (op : UnaryOp) (a : Expr) → meant (types_of p) (e.Unary op a) ≡ meant_step (types_of p) (Expr-F.Unary op (meant (types_of p) a))
  means-Unary op a = ap means (sym (e.rolls-Unary op a)) ∙ meant_layer (Expr-F.Unary op a)

  pub means-Deref : (a : Expr) → meant (types_of p) (e.Deref a) ≡ meant_step (types_of p) (Expr-F.Deref (meant (types_of p) a))
  means-Deref a = ap means (sym (e.rolls-Deref a)) ∙ meant_layer (Expr-F.Deref a)

  pub means-AddressOf : (a : Expr) → meant (types_of p) (e.AddressOf a) ≡ meant_step (types_of p) (Expr-F.AddressOf (meant (types_of p) a))
  means-AddressOf a = ap means (sym (e.rolls-AddressOf a)) ∙ meant_layer (Expr-F.AddressOf a)

  pub means-Binary : (op : BinaryOp) (a b : Expr) → meant (types_of p) (e.Binary op a b) ≡ meant_step (types_of p) (Expr-F.Binary op (meant (types_of p) a) (meant (types_of p) b))
  means-Binary op a b = ap means (sym (e.rolls-Binary op a b)) ∙ meant_layer (Expr-F.Binary op a b)

  pub means-AndAlso : (a b : Expr) → meant (types_of p) (e.AndAlso a b) ≡ meant_step (types_of p) (Expr-F.AndAlso (meant (types_of p) a) (meant (types_of p) b))
  means-AndAlso a b = ap means (sym (e.rolls-AndAlso a b)) ∙ meant_layer (Expr-F.AndAlso a b)

  pub means-OrElse : (a b : Expr) → meant (types_of p) (e.OrElse a b) ≡ meant_step (types_of p) (Expr-F.OrElse (meant (types_of p) a) (meant (types_of p) b))
  means-OrElse a b = ap means (sym (e.rolls-OrElse a b)) ∙ meant_layer (Expr-F.OrElse a b)

  pub means-Choose : (c a b : Expr) → meant (types_of p) (e.Choose c a b) ≡ meant_step (types_of p) (Expr-F.Choose (meant (types_of p) c) (meant (types_of p) a) (meant (types_of p) b))
  means-Choose c a b = ap means (sym (e.rolls-Choose c a b)) ∙ meant_layer (Expr-F.Choose c a b)

  pub means-Cast : (t : IntType) (a : Expr) → meant (types_of p) (e.Cast t a) ≡ meant_step (types_of p) (Expr-F.Cast t (meant (types_of p) a))
  means-Cast t a = ap means (sym (e.rolls-Cast t a)) ∙ meant_layer (Expr-F.Cast t a)

  pub means-Index : (a i : Expr) → meant (types_of p) (e.Index a i) ≡ meant_step (types_of p) (Expr-F.Index (meant (types_of p) a) (meant (types_of p) i))
  means-Index a i = ap means (sym (e.rolls-Index a i)) ∙ meant_layer (Expr-F.Index a i)

  pub means-Member : (a : Expr) (m : MemberId) → meant (types_of p) (e.Member a m) ≡ meant_step (types_of p) (Expr-F.Member (meant (types_of p) a) m)
  means-Member a m = ap means (sym (e.rolls-Member a m)) ∙ meant_layer (Expr-F.Member a m)

  pub means-Arrow : (a : Expr) (m : MemberId) → meant (types_of p) (e.Arrow a m) ≡ meant_step (types_of p) (Expr-F.Arrow (meant (types_of p) a) m)
  means-Arrow a m = ap means (sym (e.rolls-Arrow a m)) ∙ meant_layer (Expr-F.Arrow a m)

  pub means-Paren : (a : Expr) → meant (types_of p) (e.Paren a) ≡ meant_step (types_of p) (Expr-F.Paren (meant (types_of p) a))
  means-Paren a = ap means (sym (e.rolls-Paren a)) ∙ meant_layer (Expr-F.Paren a)

pub ruleset forms_of = (typed, means-Constant, means-Null, means-Eof, means-Variable, means-Unary, means-Deref, means-AddressOf, means-Binary, means-AndAlso, means-OrElse, means-Choose, means-Cast, means-Index, means-Member, means-Arrow, means-Paren)
