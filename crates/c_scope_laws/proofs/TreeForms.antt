-- What stays of each form of statement in the tree, as equations.
use Rattle.std.proofs.Common.{◌≡◌, ℕ, Bool, List, map, Option, Some, None, option_map, sym, ap, ◌∙◌}
use Rattle.c_arith.specs.declared.operators.BinaryOp.{BinaryOp}
use Rattle.c_tree.specs.declared.types.CType.{CType}
use Rattle.c_tree.specs.declared.expr.Expr.{Expr}
use Rattle.c_tree.specs.declared.program.Init.{Init}
use Rattle.c_tree.specs.declared.statement.Target.{Target}
use Rattle.c_tree.specs.declared.statement.Amount.{Amount}
use Rattle.c_tree.specs.declared.statement.Label.{Label}
use Rattle.c_tree.specs.declared.statement.Arm.{Arm, roll-Arm, fold-roll-Arm}
use Rattle.c_tree.specs.declared.statement.Statement.{Statement, fold-roll-Statement}
use Rattle.c_tree.specs.declared.statement.Statement.TheOpen.{Statement-F}
use Rattle.c_tree.specs.declared.statement.Statement.TheVariants as t
use Rattle.c_language.specs.Words.{Bytes}
use Rattle.projection.specs.Renumbering.{renamed_label}
use Rattle.kept_numbers.specs.Ranks.{rank}
use Rattle.projection.specs.Kept.{Kept}
use Rattle.projection.specs.Projection.{flat, declaring_step, declaring_arm, is_declaring, projected_step, projected_arm_step, projected, projected_arm}

module _ {F : Type 0} (k : Kept F) (g : ℕ → ℕ) where
  pub projected-Declare : (id : Option ℕ) (l x : ℕ) (i : Init) → projected k g (t.Declare id l x i) ≡ projected_step k g (Statement-F.Declare id l x i)
  projected-Declare id l x i = ap (projected k g) (sym (t.rolls-Declare id l x i)) ∙ fold-roll-Statement (List Statement) Arm (projected_step k g) (projected_arm_step k g) (Statement-F.Declare id l x i)

  pub projected-Assign : (id l : ℕ) (a : Expr) (op : Option BinaryOp) (b : Expr) → projected k g (t.Assign id l a op b) ≡ projected_step k g (Statement-F.Assign id l a op b)
  projected-Assign id l a op b = ap (projected k g) (sym (t.rolls-Assign id l a op b)) ∙ fold-roll-Statement (List Statement) Arm (projected_step k g) (projected_arm_step k g) (Statement-F.Assign id l a op b)

  pub projected-Bump : (id l : ℕ) (a : Expr) (up before : Bool) → projected k g (t.Bump id l a up before) ≡ projected_step k g (Statement-F.Bump id l a up before)
  projected-Bump id l a up before = ap (projected k g) (sym (t.rolls-Bump id l a up before)) ∙ fold-roll-Statement (List Statement) Arm (projected_step k g) (projected_arm_step k g) (Statement-F.Bump id l a up before)

  pub projected-Invoke : (id l : ℕ) (to : Target) (f : ℕ) (args : List Expr) → projected k g (t.Invoke id l to f args) ≡ projected_step k g (Statement-F.Invoke id l to f args)
  projected-Invoke id l to f args = ap (projected k g) (sym (t.rolls-Invoke id l to f args)) ∙ fold-roll-Statement (List Statement) Arm (projected_step k g) (projected_arm_step k g) (Statement-F.Invoke id l to f args)

  pub projected-Fetch : (id l : ℕ) (to : Target) → projected k g (t.Fetch id l to) ≡ projected_step k g (Statement-F.Fetch id l to)
  projected-Fetch id l to = ap (projected k g) (sym (t.rolls-Fetch id l to)) ∙ fold-roll-Statement (List Statement) Arm (projected_step k g) (projected_arm_step k g) (Statement-F.Fetch id l to)

  pub projected-Write : (id l : ℕ) (a : Expr) → projected k g (t.Write id l a) ≡ projected_step k g (Statement-F.Write id l a)
  projected-Write id l a = ap (projected k g) (sym (t.rolls-Write id l a)) ∙ fold-roll-Statement (List Statement) Arm (projected_step k g) (projected_arm_step k g) (Statement-F.Write id l a)

  pub projected-Print : (id l : ℕ) (format : Bytes) (args : List Expr) → projected k g (t.Print id l format args) ≡ projected_step k g (Statement-F.Print id l format args)
  projected-Print id l format args = ap (projected k g) (sym (t.rolls-Print id l format args)) ∙ fold-roll-Statement (List Statement) Arm (projected_step k g) (projected_arm_step k g) (Statement-F.Print id l format args)

  pub projected-Heap : (id l : ℕ) (to : Target) (cast : Option CType) (n : Amount) → projected k g (t.Heap id l to cast n) ≡ projected_step k g (Statement-F.Heap id l to cast n)
  projected-Heap id l to cast n = ap (projected k g) (sym (t.rolls-Heap id l to cast n)) ∙ fold-roll-Statement (List Statement) Arm (projected_step k g) (projected_arm_step k g) (Statement-F.Heap id l to cast n)

  pub projected-Release : (id l : ℕ) (a : Expr) → projected k g (t.Release id l a) ≡ projected_step k g (Statement-F.Release id l a)
  projected-Release id l a = ap (projected k g) (sym (t.rolls-Release id l a)) ∙ fold-roll-Statement (List Statement) Arm (projected_step k g) (projected_arm_step k g) (Statement-F.Release id l a)

  pub projected-If : (id l : ℕ) (a : Expr) (b c : List Statement) → projected k g (t.If id l a b c) ≡ projected_step k g (Statement-F.If id l a (map (projected k g) b) (map (projected k g) c))
  projected-If id l a b c = ap (projected k g) (sym (t.rolls-If id l a b c)) ∙ fold-roll-Statement (List Statement) Arm (projected_step k g) (projected_arm_step k g) (Statement-F.If id l a b c)

  pub projected-While : (id l : ℕ) (a : Expr) (b : List Statement) → projected k g (t.While id l a b) ≡ projected_step k g (Statement-F.While id l a (map (projected k g) b))
  projected-While id l a b = ap (projected k g) (sym (t.rolls-While id l a b)) ∙ fold-roll-Statement (List Statement) Arm (projected_step k g) (projected_arm_step k g) (Statement-F.While id l a b)

  pub projected-Do : (id l : ℕ) (a : Expr) (b : List Statement) → projected k g (t.Do id l a b) ≡ projected_step k g (Statement-F.Do id l a (map (projected k g) b))
  projected-Do id l a b = ap (projected k g) (sym (t.rolls-Do id l a b)) ∙ fold-roll-Statement (List Statement) Arm (projected_step k g) (projected_arm_step k g) (Statement-F.Do id l a b)

  pub projected-Switch : (id l : ℕ) (a : Expr) (arms : List Arm) → projected k g (t.Switch id l a arms) ≡ projected_step k g (Statement-F.Switch id l a (map (projected_arm k g) arms))
  projected-Switch id l a arms = ap (projected k g) (sym (t.rolls-Switch id l a arms)) ∙ fold-roll-Statement (List Statement) Arm (projected_step k g) (projected_arm_step k g) (Statement-F.Switch id l a arms)

  pub projected-Block : (l : ℕ) (b : List Statement) → projected k g (t.Block l b) ≡ projected_step k g (Statement-F.Block l (map (projected k g) b))
  projected-Block l b = ap (projected k g) (sym (t.rolls-Block l b)) ∙ fold-roll-Statement (List Statement) Arm (projected_step k g) (projected_arm_step k g) (Statement-F.Block l b)

  pub projected-Return : (id l : ℕ) (a : Option Expr) → projected k g (t.Return id l a) ≡ projected_step k g (Statement-F.Return id l a)
  projected-Return id l a = ap (projected k g) (sym (t.rolls-Return id l a)) ∙ fold-roll-Statement (List Statement) Arm (projected_step k g) (projected_arm_step k g) (Statement-F.Return id l a)

  pub projected-For : (id l : ℕ) (i : Option Statement) (a : Expr) (step : Option Statement) (b : List Statement) → projected k g (t.For id l i a step b) ≡ projected_step k g (Statement-F.For id l (option_map (projected k g) i) a (option_map (projected k g) step) (map (projected k g) b))
  projected-For id l None a None b = ap (projected k g) (sym (t.rolls-For id l None a None b)) ∙ fold-roll-Statement (List Statement) Arm (projected_step k g) (projected_arm_step k g) (Statement-F.For id l None a None b)
  projected-For id l None a (Some step) b = ap (projected k g) (sym (t.rolls-For id l None a (Some step) b)) ∙ fold-roll-Statement (List Statement) Arm (projected_step k g) (projected_arm_step k g) (Statement-F.For id l None a (Some step) b)
  projected-For id l (Some i) a None b = ap (projected k g) (sym (t.rolls-For id l (Some i) a None b)) ∙ fold-roll-Statement (List Statement) Arm (projected_step k g) (projected_arm_step k g) (Statement-F.For id l (Some i) a None b)
  projected-For id l (Some i) a (Some step) b = ap (projected k g) (sym (t.rolls-For id l (Some i) a (Some step) b)) ∙ fold-roll-Statement (List Statement) Arm (projected_step k g) (projected_arm_step k g) (Statement-F.For id l (Some i) a (Some step) b)

  pub projected_arm-arm : (labels : List Label) (body : List Statement) → projected_arm k g (roll-Arm (record { labels = labels; body = body })) ≡ roll-Arm (record { labels = map (renamed_label (rank k.variable)) labels; body = flat (map (projected k g) body) })
  projected_arm-arm labels body = fold-roll-Arm (List Statement) Arm (projected_step k g) (projected_arm_step k g) (record { labels = labels; body = body })

pub declaring-Declare : (id : Option ℕ) (l x : ℕ) (i : Init) → is_declaring (t.Declare id l x i) ≡ declaring_step (Statement-F.Declare id l x i)
declaring-Declare id l x i = ap is_declaring (sym (t.rolls-Declare id l x i)) ∙ fold-roll-Statement Bool Bool declaring_step declaring_arm (Statement-F.Declare id l x i)

pub declaring-Assign : (id l : ℕ) (a : Expr) (op : Option BinaryOp) (b : Expr) → is_declaring (t.Assign id l a op b) ≡ declaring_step (Statement-F.Assign id l a op b)
declaring-Assign id l a op b = ap is_declaring (sym (t.rolls-Assign id l a op b)) ∙ fold-roll-Statement Bool Bool declaring_step declaring_arm (Statement-F.Assign id l a op b)

pub declaring-Bump : (id l : ℕ) (a : Expr) (up before : Bool) → is_declaring (t.Bump id l a up before) ≡ declaring_step (Statement-F.Bump id l a up before)
declaring-Bump id l a up before = ap is_declaring (sym (t.rolls-Bump id l a up before)) ∙ fold-roll-Statement Bool Bool declaring_step declaring_arm (Statement-F.Bump id l a up before)

pub declaring-Invoke : (id l : ℕ) (to : Target) (f : ℕ) (args : List Expr) → is_declaring (t.Invoke id l to f args) ≡ declaring_step (Statement-F.Invoke id l to f args)
declaring-Invoke id l to f args = ap is_declaring (sym (t.rolls-Invoke id l to f args)) ∙ fold-roll-Statement Bool Bool declaring_step declaring_arm (Statement-F.Invoke id l to f args)

pub declaring-Fetch : (id l : ℕ) (to : Target) → is_declaring (t.Fetch id l to) ≡ declaring_step (Statement-F.Fetch id l to)
declaring-Fetch id l to = ap is_declaring (sym (t.rolls-Fetch id l to)) ∙ fold-roll-Statement Bool Bool declaring_step declaring_arm (Statement-F.Fetch id l to)

pub declaring-Write : (id l : ℕ) (a : Expr) → is_declaring (t.Write id l a) ≡ declaring_step (Statement-F.Write id l a)
declaring-Write id l a = ap is_declaring (sym (t.rolls-Write id l a)) ∙ fold-roll-Statement Bool Bool declaring_step declaring_arm (Statement-F.Write id l a)

pub declaring-Print : (id l : ℕ) (format : Bytes) (args : List Expr) → is_declaring (t.Print id l format args) ≡ declaring_step (Statement-F.Print id l format args)
declaring-Print id l format args = ap is_declaring (sym (t.rolls-Print id l format args)) ∙ fold-roll-Statement Bool Bool declaring_step declaring_arm (Statement-F.Print id l format args)

pub declaring-Heap : (id l : ℕ) (to : Target) (cast : Option CType) (n : Amount) → is_declaring (t.Heap id l to cast n) ≡ declaring_step (Statement-F.Heap id l to cast n)
declaring-Heap id l to cast n = ap is_declaring (sym (t.rolls-Heap id l to cast n)) ∙ fold-roll-Statement Bool Bool declaring_step declaring_arm (Statement-F.Heap id l to cast n)

pub declaring-Release : (id l : ℕ) (a : Expr) → is_declaring (t.Release id l a) ≡ declaring_step (Statement-F.Release id l a)
declaring-Release id l a = ap is_declaring (sym (t.rolls-Release id l a)) ∙ fold-roll-Statement Bool Bool declaring_step declaring_arm (Statement-F.Release id l a)

pub declaring-Return : (id l : ℕ) (a : Option Expr) → is_declaring (t.Return id l a) ≡ declaring_step (Statement-F.Return id l a)
declaring-Return id l a = ap is_declaring (sym (t.rolls-Return id l a)) ∙ fold-roll-Statement Bool Bool declaring_step declaring_arm (Statement-F.Return id l a)
