-- What other numbers make of each form of expression and statement.
use Rattle.std.proofs.Common.{◌≡◌, ℕ, sym, ap, ◌∙◌, List, map, Bool, Option}
use Rattle.std.specs.Prelude.{option_map}
use Rattle.c_arith.specs.declared.int_type.IntType.{IntType}
use Rattle.c_arith.specs.declared.operators.UnaryOp.{UnaryOp}
use Rattle.c_arith.specs.declared.operators.BinaryOp.{BinaryOp}
use Rattle.c_tree.specs.declared.types.CType.{CType}
use Rattle.c_tree.specs.declared.expr.Expr.{Expr, fold-roll-Expr}
use Rattle.c_tree.specs.declared.expr.Expr.TheOpen.{Expr-F}
use Rattle.c_tree.specs.declared.expr.Expr.TheVariants as e
use Rattle.c_tree.specs.declared.expr.MemberId.{MemberId}
use Rattle.c_tree.specs.declared.program.Init.{Init}
use Rattle.c_tree.specs.declared.statement.Target.{Target}
use Rattle.c_tree.specs.declared.statement.Amount.{Amount}
use Rattle.c_tree.specs.declared.statement.Statement.{Statement, fold-roll-Statement}
use Rattle.c_tree.specs.declared.statement.Statement.TheOpen.{Statement-F}
use Rattle.c_tree.specs.declared.statement.Statement.TheVariants as s
use Rattle.c_tree.specs.declared.statement.Arm.{Arm}
use Rattle.c_language.specs.Words.{Bytes}
use Rattle.projection.specs.Renumbering.{renamed_step, renamed, renamed_init, renamed_target, renamed_amount, Numbers, renumbered_step, renumbered_arm, renumbered}

module _ (f : ℕ → ℕ) where
  pub renamed-Constant : (text : Bytes) (t : IntType) (v : ℕ) → renamed f (e.Constant text t v) ≡ e.Constant text t v
  renamed-Constant text t v = ap (renamed f) (sym (e.rolls-Constant text t v)) ∙ fold-roll-Expr Expr (renamed_step f) (Expr-F.Constant text t v)

  pub renamed-Null : renamed f e.Null ≡ e.Null
  renamed-Null = ap (renamed f) (sym e.rolls-Null) ∙ fold-roll-Expr Expr (renamed_step f) Expr-F.Null

  pub renamed-Eof : renamed f e.Eof ≡ e.Eof
  renamed-Eof = ap (renamed f) (sym e.rolls-Eof) ∙ fold-roll-Expr Expr (renamed_step f) Expr-F.Eof

  pub renamed-Variable : (x : ℕ) → renamed f (e.Variable x) ≡ e.Variable (f x)
  renamed-Variable x = ap (renamed f) (sym (e.rolls-Variable x)) ∙ fold-roll-Expr Expr (renamed_step f) (Expr-F.Variable x)

  pub renamed-Unary : (op : UnaryOp) (a : Expr) → renamed f (e.Unary op a) ≡ e.Unary op (renamed f a)
  renamed-Unary op a = ap (renamed f) (sym (e.rolls-Unary op a)) ∙ fold-roll-Expr Expr (renamed_step f) (Expr-F.Unary op a)

  pub renamed-Deref : (a : Expr) → renamed f (e.Deref a) ≡ e.Deref (renamed f a)
  renamed-Deref a = ap (renamed f) (sym (e.rolls-Deref a)) ∙ fold-roll-Expr Expr (renamed_step f) (Expr-F.Deref a)

  pub renamed-AddressOf : (a : Expr) → renamed f (e.AddressOf a) ≡ e.AddressOf (renamed f a)
  renamed-AddressOf a = ap (renamed f) (sym (e.rolls-AddressOf a)) ∙ fold-roll-Expr Expr (renamed_step f) (Expr-F.AddressOf a)

  pub renamed-Binary : (op : BinaryOp) (a b : Expr) → renamed f (e.Binary op a b) ≡ e.Binary op (renamed f a) (renamed f b)
  renamed-Binary op a b = ap (renamed f) (sym (e.rolls-Binary op a b)) ∙ fold-roll-Expr Expr (renamed_step f) (Expr-F.Binary op a b)

  pub renamed-AndAlso : (a b : Expr) → renamed f (e.AndAlso a b) ≡ e.AndAlso (renamed f a) (renamed f b)
  renamed-AndAlso a b = ap (renamed f) (sym (e.rolls-AndAlso a b)) ∙ fold-roll-Expr Expr (renamed_step f) (Expr-F.AndAlso a b)

  pub renamed-OrElse : (a b : Expr) → renamed f (e.OrElse a b) ≡ e.OrElse (renamed f a) (renamed f b)
  renamed-OrElse a b = ap (renamed f) (sym (e.rolls-OrElse a b)) ∙ fold-roll-Expr Expr (renamed_step f) (Expr-F.OrElse a b)

  pub renamed-Choose : (c a b : Expr) → renamed f (e.Choose c a b) ≡ e.Choose (renamed f c) (renamed f a) (renamed f b)
  renamed-Choose c a b = ap (renamed f) (sym (e.rolls-Choose c a b)) ∙ fold-roll-Expr Expr (renamed_step f) (Expr-F.Choose c a b)

  pub renamed-Cast : (t : IntType) (a : Expr) → renamed f (e.Cast t a) ≡ e.Cast t (renamed f a)
  renamed-Cast t a = ap (renamed f) (sym (e.rolls-Cast t a)) ∙ fold-roll-Expr Expr (renamed_step f) (Expr-F.Cast t a)

  pub renamed-Index : (a i : Expr) → renamed f (e.Index a i) ≡ e.Index (renamed f a) (renamed f i)
  renamed-Index a i = ap (renamed f) (sym (e.rolls-Index a i)) ∙ fold-roll-Expr Expr (renamed_step f) (Expr-F.Index a i)

  pub renamed-Member : (a : Expr) (m : MemberId) → renamed f (e.Member a m) ≡ e.Member (renamed f a) m
  renamed-Member a m = ap (renamed f) (sym (e.rolls-Member a m)) ∙ fold-roll-Expr Expr (renamed_step f) (Expr-F.Member a m)

  pub renamed-Arrow : (a : Expr) (m : MemberId) → renamed f (e.Arrow a m) ≡ e.Arrow (renamed f a) m
  renamed-Arrow a m = ap (renamed f) (sym (e.rolls-Arrow a m)) ∙ fold-roll-Expr Expr (renamed_step f) (Expr-F.Arrow a m)

  pub renamed-Paren : (a : Expr) → renamed f (e.Paren a) ≡ e.Paren (renamed f a)
  renamed-Paren a = ap (renamed f) (sym (e.rolls-Paren a)) ∙ fold-roll-Expr Expr (renamed_step f) (Expr-F.Paren a)

module _ (ns : Numbers) where
  pub renumbered-Declare : (id : Option ℕ) (l x : ℕ) (i : Init) → renumbered ns (s.Declare id l x i) ≡ s.Declare (option_map ns.statement id) l (ns.variable x) (renamed_init ns.variable i)
  renumbered-Declare id l x i = ap (renumbered ns) (sym (s.rolls-Declare id l x i)) ∙ fold-roll-Statement Statement Arm (renumbered_step ns) (renumbered_arm ns) (Statement-F.Declare id l x i)

  pub renumbered-Assign : (id l : ℕ) (left : Expr) (op : Option BinaryOp) (right : Expr) → renumbered ns (s.Assign id l left op right) ≡ s.Assign (ns.statement id) l (renamed ns.variable left) op (renamed ns.variable right)
  renumbered-Assign id l left op right = ap (renumbered ns) (sym (s.rolls-Assign id l left op right)) ∙ fold-roll-Statement Statement Arm (renumbered_step ns) (renumbered_arm ns) (Statement-F.Assign id l left op right)

  pub renumbered-Bump : (id l : ℕ) (a : Expr) (up before : Bool) → renumbered ns (s.Bump id l a up before) ≡ s.Bump (ns.statement id) l (renamed ns.variable a) up before
  renumbered-Bump id l a up before = ap (renumbered ns) (sym (s.rolls-Bump id l a up before)) ∙ fold-roll-Statement Statement Arm (renumbered_step ns) (renumbered_arm ns) (Statement-F.Bump id l a up before)

  pub renumbered-Invoke : (id l : ℕ) (to : Target) (f : ℕ) (args : List Expr) → renumbered ns (s.Invoke id l to f args) ≡ s.Invoke (ns.statement id) l (renamed_target ns.variable to) (ns.function f) (map (renamed ns.variable) args)
  renumbered-Invoke id l to f args = ap (renumbered ns) (sym (s.rolls-Invoke id l to f args)) ∙ fold-roll-Statement Statement Arm (renumbered_step ns) (renumbered_arm ns) (Statement-F.Invoke id l to f args)

  pub renumbered-Fetch : (id l : ℕ) (to : Target) → renumbered ns (s.Fetch id l to) ≡ s.Fetch (ns.statement id) l (renamed_target ns.variable to)
  renumbered-Fetch id l to = ap (renumbered ns) (sym (s.rolls-Fetch id l to)) ∙ fold-roll-Statement Statement Arm (renumbered_step ns) (renumbered_arm ns) (Statement-F.Fetch id l to)

  pub renumbered-Write : (id l : ℕ) (a : Expr) → renumbered ns (s.Write id l a) ≡ s.Write (ns.statement id) l (renamed ns.variable a)
  renumbered-Write id l a = ap (renumbered ns) (sym (s.rolls-Write id l a)) ∙ fold-roll-Statement Statement Arm (renumbered_step ns) (renumbered_arm ns) (Statement-F.Write id l a)

  pub renumbered-Print : (id l : ℕ) (format : Bytes) (args : List Expr) → renumbered ns (s.Print id l format args) ≡ s.Print (ns.statement id) l format (map (renamed ns.variable) args)
  renumbered-Print id l format args = ap (renumbered ns) (sym (s.rolls-Print id l format args)) ∙ fold-roll-Statement Statement Arm (renumbered_step ns) (renumbered_arm ns) (Statement-F.Print id l format args)

  pub renumbered-Heap : (id l : ℕ) (to : Target) (cast : Option CType) (n : Amount) → renumbered ns (s.Heap id l to cast n) ≡ s.Heap (ns.statement id) l (renamed_target ns.variable to) cast (renamed_amount ns.variable n)
  renumbered-Heap id l to cast n = ap (renumbered ns) (sym (s.rolls-Heap id l to cast n)) ∙ fold-roll-Statement Statement Arm (renumbered_step ns) (renumbered_arm ns) (Statement-F.Heap id l to cast n)

  pub renumbered-Release : (id l : ℕ) (a : Expr) → renumbered ns (s.Release id l a) ≡ s.Release (ns.statement id) l (renamed ns.variable a)
  renumbered-Release id l a = ap (renumbered ns) (sym (s.rolls-Release id l a)) ∙ fold-roll-Statement Statement Arm (renumbered_step ns) (renumbered_arm ns) (Statement-F.Release id l a)

  pub renumbered-Return : (id l : ℕ) (a : Option Expr) → renumbered ns (s.Return id l a) ≡ s.Return (ns.statement id) l (option_map (renamed ns.variable) a)
  renumbered-Return id l a = ap (renumbered ns) (sym (s.rolls-Return id l a)) ∙ fold-roll-Statement Statement Arm (renumbered_step ns) (renumbered_arm ns) (Statement-F.Return id l a)
