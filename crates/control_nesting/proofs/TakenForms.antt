-- Whether the arms in each form of statement are taken, as equations.
use Rattle.std.proofs.Common.{◌≡◌, ℕ, List, map, Bool, Option, Some, None, option_map, sym, ap, ◌∙◌}
use Rattle.c_arith.specs.declared.operators.BinaryOp.{BinaryOp}
use Rattle.c_tree.specs.declared.types.CType.{CType}
use Rattle.c_tree.specs.declared.expr.Expr.{Expr}
use Rattle.c_tree.specs.declared.program.Init.{Init}
use Rattle.c_tree.specs.declared.statement.Target.{Target}
use Rattle.c_tree.specs.declared.statement.Amount.{Amount}
use Rattle.c_tree.specs.declared.statement.Label.{Label}
use Rattle.c_tree.specs.declared.statement.Arm.{Arm, roll-Arm, fold-roll-Arm}
use Rattle.c_tree.specs.declared.statement.Statement.{Statement, fold-roll-Statement}
use Rattle.c_tree.specs.declared.statement.Statement.TheOpen.{Statement-F}
use Rattle.c_tree.specs.declared.statement.Statement.TheVariants as t
use Rattle.c_language.specs.Words.{Bytes}
use Rattle.control_nesting.specs.TakenArms.{ArmTakes, takes_step, takes_arm, takes_all, arm_takes}

pub takes-Declare : (id : Option ℕ) (l : ℕ) (x : ℕ) (i : Init) → takes_all (t.Declare id l x i) ≡ takes_step (Statement-F.Declare id l x i)
takes-Declare id l x i = ap takes_all (sym (t.rolls-Declare id l x i)) ∙ fold-roll-Statement Bool ArmTakes takes_step takes_arm (Statement-F.Declare id l x i)

pub takes-Assign : (id : ℕ) (l : ℕ) (a : Expr) (op : Option BinaryOp) (b : Expr) → takes_all (t.Assign id l a op b) ≡ takes_step (Statement-F.Assign id l a op b)
takes-Assign id l a op b = ap takes_all (sym (t.rolls-Assign id l a op b)) ∙ fold-roll-Statement Bool ArmTakes takes_step takes_arm (Statement-F.Assign id l a op b)

pub takes-Bump : (id : ℕ) (l : ℕ) (a : Expr) (up : Bool) (before : Bool) → takes_all (t.Bump id l a up before) ≡ takes_step (Statement-F.Bump id l a up before)
takes-Bump id l a up before = ap takes_all (sym (t.rolls-Bump id l a up before)) ∙ fold-roll-Statement Bool ArmTakes takes_step takes_arm (Statement-F.Bump id l a up before)

pub takes-Invoke : (id : ℕ) (l : ℕ) (to : Target) (f : ℕ) (args : List Expr) → takes_all (t.Invoke id l to f args) ≡ takes_step (Statement-F.Invoke id l to f args)
takes-Invoke id l to f args = ap takes_all (sym (t.rolls-Invoke id l to f args)) ∙ fold-roll-Statement Bool ArmTakes takes_step takes_arm (Statement-F.Invoke id l to f args)

pub takes-Fetch : (id : ℕ) (l : ℕ) (to : Target) → takes_all (t.Fetch id l to) ≡ takes_step (Statement-F.Fetch id l to)
takes-Fetch id l to = ap takes_all (sym (t.rolls-Fetch id l to)) ∙ fold-roll-Statement Bool ArmTakes takes_step takes_arm (Statement-F.Fetch id l to)

pub takes-Write : (id : ℕ) (l : ℕ) (a : Expr) → takes_all (t.Write id l a) ≡ takes_step (Statement-F.Write id l a)
takes-Write id l a = ap takes_all (sym (t.rolls-Write id l a)) ∙ fold-roll-Statement Bool ArmTakes takes_step takes_arm (Statement-F.Write id l a)

pub takes-Print : (id : ℕ) (l : ℕ) (format : Bytes) (args : List Expr) → takes_all (t.Print id l format args) ≡ takes_step (Statement-F.Print id l format args)
takes-Print id l format args = ap takes_all (sym (t.rolls-Print id l format args)) ∙ fold-roll-Statement Bool ArmTakes takes_step takes_arm (Statement-F.Print id l format args)

pub takes-Heap : (id : ℕ) (l : ℕ) (to : Target) (cast : Option CType) (n : Amount) → takes_all (t.Heap id l to cast n) ≡ takes_step (Statement-F.Heap id l to cast n)
takes-Heap id l to cast n = ap takes_all (sym (t.rolls-Heap id l to cast n)) ∙ fold-roll-Statement Bool ArmTakes takes_step takes_arm (Statement-F.Heap id l to cast n)

pub takes-Release : (id : ℕ) (l : ℕ) (a : Expr) → takes_all (t.Release id l a) ≡ takes_step (Statement-F.Release id l a)
takes-Release id l a = ap takes_all (sym (t.rolls-Release id l a)) ∙ fold-roll-Statement Bool ArmTakes takes_step takes_arm (Statement-F.Release id l a)

pub takes-If : (id : ℕ) (l : ℕ) (a : Expr) (b : List Statement) (c : List Statement) → takes_all (t.If id l a b c) ≡ takes_step (Statement-F.If id l a (map takes_all b) (map takes_all c))
takes-If id l a b c = ap takes_all (sym (t.rolls-If id l a b c)) ∙ fold-roll-Statement Bool ArmTakes takes_step takes_arm (Statement-F.If id l a b c)

pub takes-While : (id : ℕ) (l : ℕ) (a : Expr) (b : List Statement) → takes_all (t.While id l a b) ≡ takes_step (Statement-F.While id l a (map takes_all b))
takes-While id l a b = ap takes_all (sym (t.rolls-While id l a b)) ∙ fold-roll-Statement Bool ArmTakes takes_step takes_arm (Statement-F.While id l a b)

pub takes-Do : (id : ℕ) (l : ℕ) (a : Expr) (b : List Statement) → takes_all (t.Do id l a b) ≡ takes_step (Statement-F.Do id l a (map takes_all b))
takes-Do id l a b = ap takes_all (sym (t.rolls-Do id l a b)) ∙ fold-roll-Statement Bool ArmTakes takes_step takes_arm (Statement-F.Do id l a b)

pub takes-For : (id : ℕ) (l : ℕ) (i : Option Statement) (a : Expr) (step : Option Statement) (b : List Statement) → takes_all (t.For id l i a step b) ≡ takes_step (Statement-F.For id l (option_map takes_all i) a (option_map takes_all step) (map takes_all b))
takes-For id l None a None b = ap takes_all (sym (t.rolls-For id l None a None b)) ∙ fold-roll-Statement Bool ArmTakes takes_step takes_arm (Statement-F.For id l None a None b)
takes-For id l None a (Some step) b = ap takes_all (sym (t.rolls-For id l None a (Some step) b)) ∙ fold-roll-Statement Bool ArmTakes takes_step takes_arm (Statement-F.For id l None a (Some step) b)
takes-For id l (Some i) a None b = ap takes_all (sym (t.rolls-For id l (Some i) a None b)) ∙ fold-roll-Statement Bool ArmTakes takes_step takes_arm (Statement-F.For id l (Some i) a None b)
takes-For id l (Some i) a (Some step) b = ap takes_all (sym (t.rolls-For id l (Some i) a (Some step) b)) ∙ fold-roll-Statement Bool ArmTakes takes_step takes_arm (Statement-F.For id l (Some i) a (Some step) b)

pub takes-Switch : (id : ℕ) (l : ℕ) (a : Expr) (arms : List Arm) → takes_all (t.Switch id l a arms) ≡ takes_step (Statement-F.Switch id l a (map arm_takes arms))
takes-Switch id l a arms = ap takes_all (sym (t.rolls-Switch id l a arms)) ∙ fold-roll-Statement Bool ArmTakes takes_step takes_arm (Statement-F.Switch id l a arms)

pub takes-Block : (l : ℕ) (b : List Statement) → takes_all (t.Block l b) ≡ takes_step (Statement-F.Block l (map takes_all b))
takes-Block l b = ap takes_all (sym (t.rolls-Block l b)) ∙ fold-roll-Statement Bool ArmTakes takes_step takes_arm (Statement-F.Block l b)

pub takes-Return : (id : ℕ) (l : ℕ) (value : Option Expr) → takes_all (t.Return id l value) ≡ takes_step (Statement-F.Return id l value)
takes-Return id l value = ap takes_all (sym (t.rolls-Return id l value)) ∙ fold-roll-Statement Bool ArmTakes takes_step takes_arm (Statement-F.Return id l value)

pub takes-arm : (labels : List Label) (b : List Statement) → arm_takes (roll-Arm (record { labels = labels; body = b })) ≡ takes_arm (record { labels = labels; body = map takes_all b })
takes-arm labels b = fold-roll-Arm Bool ArmTakes takes_step takes_arm (record { labels = labels; body = b })
