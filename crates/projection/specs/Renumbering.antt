-- Trees with other numbers for variables, statements and functions.
use Rattle.std.specs.Prelude.{ℕ, map, option_map}
use Rattle.c_tree.specs.declared.expr.Expr.{Expr, fold-Expr}
use Rattle.c_tree.specs.declared.expr.Expr.TheOpen.{Expr-F}
use Rattle.c_tree.specs.declared.expr.Expr.TheVariants as e
use Rattle.c_tree.specs.declared.program.Init.{Init}
use Rattle.c_tree.specs.declared.program.Init.TheVariants as init
use Rattle.c_tree.specs.declared.statement.Target.{Target}
use Rattle.c_tree.specs.declared.statement.Target.TheVariants as target
use Rattle.c_tree.specs.declared.statement.Size.{Size}
use Rattle.c_tree.specs.declared.statement.Size.TheVariants as size
use Rattle.c_tree.specs.declared.statement.Amount.{Amount}
use Rattle.c_tree.specs.declared.statement.Amount.TheVariants as amount
use Rattle.c_tree.specs.declared.statement.Label.{Label}
use Rattle.c_tree.specs.declared.statement.Label.TheVariants as label
use Rattle.c_tree.specs.declared.statement.Arm.{Arm, roll-Arm}
use Rattle.c_tree.specs.declared.statement.Statement.{Statement, fold-Statement}
use Rattle.c_tree.specs.declared.statement.Statement.TheOpen.{Statement-F, Arm-F}
use Rattle.c_tree.specs.declared.statement.Statement.TheVariants as s

-- other numbers for the variables of an expression
abbrev pub renamed_step : (ℕ → ℕ) → Expr-F Expr → Expr
renamed_step f (Expr-F.Constant text t v) = e.Constant text t v
renamed_step f Expr-F.Null = e.Null
renamed_step f Expr-F.Eof = e.Eof
renamed_step f (Expr-F.Variable x) = e.Variable (f x)
renamed_step f (Expr-F.Unary op a) = e.Unary op a
renamed_step f (Expr-F.Deref a) = e.Deref a
renamed_step f (Expr-F.AddressOf a) = e.AddressOf a
renamed_step f (Expr-F.Binary op a b) = e.Binary op a b
renamed_step f (Expr-F.AndAlso a b) = e.AndAlso a b
renamed_step f (Expr-F.OrElse a b) = e.OrElse a b
renamed_step f (Expr-F.Choose c a b) = e.Choose c a b
renamed_step f (Expr-F.Cast t a) = e.Cast t a
renamed_step f (Expr-F.Index a i) = e.Index a i
renamed_step f (Expr-F.Member a m) = e.Member a m
renamed_step f (Expr-F.Arrow a m) = e.Arrow a m
renamed_step f (Expr-F.Paren a) = e.Paren a

abbrev pub renamed : (ℕ → ℕ) → Expr → Expr
renamed f = fold-Expr Expr (renamed_step f)

abbrev pub renamed_init : (ℕ → ℕ) → Init → Init
renamed_init f init.None = init.None
renamed_init f (init.One a) = init.One (renamed f a)
renamed_init f (init.Items as_) = init.Items (map (renamed f) as_)

abbrev pub renamed_target : (ℕ → ℕ) → Target → Target
renamed_target f target.None = target.None
renamed_target f (target.Place a) = target.Place (renamed f a)
renamed_target f (target.Declared x) = target.Declared (f x)

abbrev pub renamed_size : (ℕ → ℕ) → Size → Size
renamed_size f (size.Type t) = size.Type t
renamed_size f (size.Pointee x in_parentheses) = size.Pointee (f x) in_parentheses

abbrev pub renamed_amount : (ℕ → ℕ) → Amount → Amount
renamed_amount f (amount.Size m) = amount.Size (renamed_size f m)
renamed_amount f (amount.CountSize a m) = amount.CountSize (renamed f a) (renamed_size f m)
renamed_amount f (amount.SizeCount m a) = amount.SizeCount (renamed_size f m) (renamed f a)
renamed_amount f (amount.Count a) = amount.Count (renamed f a)

abbrev pub renamed_label : (ℕ → ℕ) → Label → Label
renamed_label f (label.Case a z) = label.Case (renamed f a) z
renamed_label f label.Default = label.Default

-- other numbers for variables, statements and functions
pub record Numbers : Type 0 where
  pub variable : ℕ → ℕ
  pub statement : ℕ → ℕ
  pub function : ℕ → ℕ

abbrev pub renumbered_step : Numbers → Statement-F Statement Arm → Statement
renumbered_step ns (Statement-F.Declare id l x i) = s.Declare (option_map ns.statement id) l (ns.variable x) (renamed_init ns.variable i)
renumbered_step ns (Statement-F.Assign id l left op right) = s.Assign (ns.statement id) l (renamed ns.variable left) op (renamed ns.variable right)
renumbered_step ns (Statement-F.Bump id l a up before) = s.Bump (ns.statement id) l (renamed ns.variable a) up before
renumbered_step ns (Statement-F.Invoke id l to f args) =
    s.Invoke (ns.statement id) l (renamed_target ns.variable to) (ns.function f) (map (renamed ns.variable) args)
renumbered_step ns (Statement-F.Fetch id l to) = s.Fetch (ns.statement id) l (renamed_target ns.variable to)
renumbered_step ns (Statement-F.Write id l a) = s.Write (ns.statement id) l (renamed ns.variable a)
renumbered_step ns (Statement-F.Print id l format args) = s.Print (ns.statement id) l format (map (renamed ns.variable) args)
renumbered_step ns (Statement-F.Heap id l to cast n) = s.Heap (ns.statement id) l (renamed_target ns.variable to) cast (renamed_amount ns.variable n)
renumbered_step ns (Statement-F.Release id l a) = s.Release (ns.statement id) l (renamed ns.variable a)
renumbered_step ns (Statement-F.If id l a b c) = s.If (ns.statement id) l (renamed ns.variable a) b c
renumbered_step ns (Statement-F.While id l a b) = s.While (ns.statement id) l (renamed ns.variable a) b
renumbered_step ns (Statement-F.Do id l a b) = s.Do (ns.statement id) l (renamed ns.variable a) b
renumbered_step ns (Statement-F.For id l i a step b) = s.For (ns.statement id) l i (renamed ns.variable a) step b
renumbered_step ns (Statement-F.Switch id l a arms) = s.Switch (ns.statement id) l (renamed ns.variable a) arms
renumbered_step ns (Statement-F.Block l b) = s.Block l b
renumbered_step ns (Statement-F.Return id l a) = s.Return (ns.statement id) l (option_map (renamed ns.variable) a)

abbrev pub renumbered_arm : Numbers → Arm-F Statement Arm → Arm
renumbered_arm ns a = roll-Arm (record { labels = map (renamed_label ns.variable) a.labels; body = a.body })

-- a statement with other numbers
abbrev pub renumbered : Numbers → Statement → Statement
renumbered ns = fold-Statement Statement Arm (renumbered_step ns) (renumbered_arm ns)
