-- What `unlined` is at each variant.
use Rattle.std.proofs.Common.{◌≡◌, ℕ, Bool, List, map, Option, Some, None, sym, ap, ◌∙◌}
use Rattle.std.specs.Option.{option_map}
use Rattle.c_arith.specs.declared.operators.BinaryOp.{BinaryOp}
use Rattle.c_tree.specs.declared.types.CType.{CType}
use Rattle.c_tree.specs.declared.expr.Expr.{Expr}
use Rattle.c_tree.specs.declared.program.Init.{Init}
use Rattle.c_tree.specs.declared.statement.Target.{Target}
use Rattle.c_tree.specs.declared.statement.Label.{Label}
use Rattle.c_tree.specs.declared.statement.Amount.{Amount}
use Rattle.c_tree.specs.declared.statement.Statement.{Statement, fold-roll-Statement}
use Rattle.c_tree.specs.declared.statement.Statement.TheOpen.{Statement-F}
use Rattle.c_tree.specs.declared.statement.Statement.TheVariants as s
use Rattle.c_tree.specs.declared.statement.Arm.{Arm, roll-Arm, fold-roll-Arm, fold-Arm}
use Rattle.c_tree.specs.Unlined.{unlined_step, unlined_arm, unlined}

-- an arm with line 0 in the place of each line
abbrev pub unlined_of_arm : Arm → Arm
unlined_of_arm = fold-Arm Statement Arm unlined_step unlined_arm

pub unlined-Declare : (id : Option ℕ) (l x : ℕ) (init : Init) → unlined (s.Declare id l x init) ≡ s.Declare id 0 x init
unlined-Declare id l x init =
    ap unlined (sym (s.rolls-Declare id l x init)) ∙ fold-roll-Statement Statement Arm unlined_step unlined_arm (Statement-F.Declare id l x init)

pub unlined-Assign : (id l : ℕ) (left : Expr) (op : Option BinaryOp) (right : Expr) → unlined (s.Assign id l left op right) ≡ s.Assign id 0 left op right
unlined-Assign id l left op right =
    ap unlined (sym (s.rolls-Assign id l left op right)) ∙ fold-roll-Statement Statement Arm unlined_step unlined_arm (Statement-F.Assign id l left op right)

pub unlined-Bump : (id l : ℕ) (a : Expr) (up before : Bool) → unlined (s.Bump id l a up before) ≡ s.Bump id 0 a up before
unlined-Bump id l a up before =
    ap unlined (sym (s.rolls-Bump id l a up before)) ∙ fold-roll-Statement Statement Arm unlined_step unlined_arm (Statement-F.Bump id l a up before)

pub unlined-Invoke : (id l : ℕ) (to : Target) (f : ℕ) (args : List Expr) → unlined (s.Invoke id l to f args) ≡ s.Invoke id 0 to f args
unlined-Invoke id l to f args =
    ap unlined (sym (s.rolls-Invoke id l to f args)) ∙ fold-roll-Statement Statement Arm unlined_step unlined_arm (Statement-F.Invoke id l to f args)

pub unlined-Fetch : (id l : ℕ) (to : Target) → unlined (s.Fetch id l to) ≡ s.Fetch id 0 to
unlined-Fetch id l to =
    ap unlined (sym (s.rolls-Fetch id l to)) ∙ fold-roll-Statement Statement Arm unlined_step unlined_arm (Statement-F.Fetch id l to)

pub unlined-Write : (id l : ℕ) (e : Expr) → unlined (s.Write id l e) ≡ s.Write id 0 e
unlined-Write id l e =
    ap unlined (sym (s.rolls-Write id l e)) ∙ fold-roll-Statement Statement Arm unlined_step unlined_arm (Statement-F.Write id l e)

pub unlined-Print : (id l : ℕ) (format : List ℕ) (args : List Expr) → unlined (s.Print id l format args) ≡ s.Print id 0 format args
unlined-Print id l format args =
    ap unlined (sym (s.rolls-Print id l format args)) ∙ fold-roll-Statement Statement Arm unlined_step unlined_arm (Statement-F.Print id l format args)

pub unlined-Heap : (id l : ℕ) (to : Target) (cast : Option CType) (n : Amount) → unlined (s.Heap id l to cast n) ≡ s.Heap id 0 to cast n
unlined-Heap id l to cast n =
    ap unlined (sym (s.rolls-Heap id l to cast n)) ∙ fold-roll-Statement Statement Arm unlined_step unlined_arm (Statement-F.Heap id l to cast n)

pub unlined-Release : (id l : ℕ) (e : Expr) → unlined (s.Release id l e) ≡ s.Release id 0 e
unlined-Release id l e =
    ap unlined (sym (s.rolls-Release id l e)) ∙ fold-roll-Statement Statement Arm unlined_step unlined_arm (Statement-F.Release id l e)

pub unlined-If : (id l : ℕ) (e : Expr) (a b : List Statement) → unlined (s.If id l e a b) ≡ s.If id 0 e (map unlined a) (map unlined b)
unlined-If id l e a b =
    ap unlined (sym (s.rolls-If id l e a b)) ∙ fold-roll-Statement Statement Arm unlined_step unlined_arm (Statement-F.If id l e a b)

pub unlined-While : (id l : ℕ) (e : Expr) (b : List Statement) → unlined (s.While id l e b) ≡ s.While id 0 e (map unlined b)
unlined-While id l e b =
    ap unlined (sym (s.rolls-While id l e b)) ∙ fold-roll-Statement Statement Arm unlined_step unlined_arm (Statement-F.While id l e b)

pub unlined-Do : (id l : ℕ) (e : Expr) (b : List Statement) → unlined (s.Do id l e b) ≡ s.Do id 0 e (map unlined b)
unlined-Do id l e b =
    ap unlined (sym (s.rolls-Do id l e b)) ∙ fold-roll-Statement Statement Arm unlined_step unlined_arm (Statement-F.Do id l e b)

pub unlined-For : (id l : ℕ) (i : Option Statement) (e : Expr) (step : Option Statement) (b : List Statement) → unlined (s.For id l i e step b) ≡ s.For id 0 (option_map unlined i) e (option_map unlined step) (map unlined b)
unlined-For id l None e None b =
    ap unlined (sym (s.rolls-For id l None e None b)) ∙ fold-roll-Statement Statement Arm unlined_step unlined_arm (Statement-F.For id l None e None b)
unlined-For id l None e (Some step) b =
    ap unlined (sym (s.rolls-For id l None e (Some step) b)) ∙ fold-roll-Statement Statement Arm unlined_step unlined_arm (Statement-F.For id l None e (Some step) b)
unlined-For id l (Some i) e None b =
    ap unlined (sym (s.rolls-For id l (Some i) e None b)) ∙ fold-roll-Statement Statement Arm unlined_step unlined_arm (Statement-F.For id l (Some i) e None b)
unlined-For id l (Some i) e (Some step) b =
    ap unlined (sym (s.rolls-For id l (Some i) e (Some step) b)) ∙ fold-roll-Statement Statement Arm unlined_step unlined_arm (Statement-F.For id l (Some i) e (Some step) b)

pub unlined-Switch : (id l : ℕ) (e : Expr) (arms : List Arm) → unlined (s.Switch id l e arms) ≡ s.Switch id 0 e (map unlined_of_arm arms)
unlined-Switch id l e arms =
    ap unlined (sym (s.rolls-Switch id l e arms)) ∙ fold-roll-Statement Statement Arm unlined_step unlined_arm (Statement-F.Switch id l e arms)

pub unlined-Block : (l : ℕ) (b : List Statement) → unlined (s.Block l b) ≡ s.Block 0 (map unlined b)
unlined-Block l b =
    ap unlined (sym (s.rolls-Block l b)) ∙ fold-roll-Statement Statement Arm unlined_step unlined_arm (Statement-F.Block l b)

pub unlined-Return : (id l : ℕ) (e : Option Expr) → unlined (s.Return id l e) ≡ s.Return id 0 e
unlined-Return id l e =
    ap unlined (sym (s.rolls-Return id l e)) ∙ fold-roll-Statement Statement Arm unlined_step unlined_arm (Statement-F.Return id l e)

pub unlined_of_arm-roll : (labels : List Label) (b : List Statement) → unlined_of_arm (roll-Arm (record { labels = labels; body = b })) ≡ roll-Arm (record { labels = labels; body = map unlined b })
unlined_of_arm-roll labels b =
    fold-roll-Arm Statement Arm unlined_step unlined_arm (record { labels = labels; body = b })

-- What `unlined` is at each variant.
pub ruleset unlined_steps = (unlined-Declare, unlined-Assign, unlined-Bump, unlined-Invoke, unlined-Fetch, unlined-Write, unlined-Print, unlined-Heap, unlined-Release, unlined-If, unlined-While, unlined-Do, unlined-For, unlined-Switch, unlined-Block, unlined-Return, unlined_of_arm-roll)
