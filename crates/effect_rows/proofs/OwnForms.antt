-- What each form of statement does itself, as equations.
use Rattle.std.proofs.Common.{◌≡◌, ℕ, List, Bool, Option, Some, None, sym, ap, ◌∙◌}
use Rattle.c_arith.specs.declared.operators.BinaryOp.{BinaryOp}
use Rattle.c_tree.specs.declared.types.CType.{CType}
use Rattle.c_tree.specs.declared.expr.Expr.{Expr}
use Rattle.c_tree.specs.declared.program.Init.{Init}
use Rattle.c_tree.specs.declared.statement.Amount.{Amount}
use Rattle.c_tree.specs.declared.statement.Target.{Target}
use Rattle.c_tree.specs.declared.statement.Statement.{Statement, out-roll-Statement}
use Rattle.c_tree.specs.declared.statement.Statement.TheOpen.{Statement-F}
use Rattle.c_tree.specs.declared.statement.Statement.TheVariants as s
use Rattle.c_tree.specs.declared.statement.Arm.{Arm}
use Rattle.c_language.specs.Words.{Bytes}
use Rattle.c_language.specs.Code.{Sets, Bumps, Fetches, Writes, Prints, Allocates, Frees, Returns, Tests}
use Rattle.dep_model.specs.Doings.{Does, Calls}
use Rattle.effect_rows.specs.Own.{own_step, own_doing}

pub own-Declare : (id : Option ℕ) (l x : ℕ) (i : Init) → own_doing (s.Declare id l x i) ≡ own_step (Statement-F.Declare id l x i)
own-Declare id l x i = ap own_doing (sym (s.rolls-Declare id l x i)) ∙ ap own_step (out-roll-Statement (Statement-F.Declare id l x i))

pub own-Assign : (id l : ℕ) (a : Expr) (op : Option BinaryOp) (b : Expr) → own_doing (s.Assign id l a op b) ≡ Some (Does id (Sets a op b))
own-Assign id l a op b = ap own_doing (sym (s.rolls-Assign id l a op b)) ∙ ap own_step (out-roll-Statement (Statement-F.Assign id l a op b))

pub own-Bump : (id l : ℕ) (a : Expr) (up before : Bool) → own_doing (s.Bump id l a up before) ≡ Some (Does id (Bumps a up))
own-Bump id l a up before = ap own_doing (sym (s.rolls-Bump id l a up before)) ∙ ap own_step (out-roll-Statement (Statement-F.Bump id l a up before))

pub own-Invoke : (id l : ℕ) (to : Target) (f : ℕ) (args : List Expr) → own_doing (s.Invoke id l to f args) ≡ Some (Calls id to f args)
own-Invoke id l to f args = ap own_doing (sym (s.rolls-Invoke id l to f args)) ∙ ap own_step (out-roll-Statement (Statement-F.Invoke id l to f args))

pub own-Fetch : (id l : ℕ) (to : Target) → own_doing (s.Fetch id l to) ≡ Some (Does id (Fetches to))
own-Fetch id l to = ap own_doing (sym (s.rolls-Fetch id l to)) ∙ ap own_step (out-roll-Statement (Statement-F.Fetch id l to))

pub own-Write : (id l : ℕ) (e : Expr) → own_doing (s.Write id l e) ≡ Some (Does id (Writes e))
own-Write id l e = ap own_doing (sym (s.rolls-Write id l e)) ∙ ap own_step (out-roll-Statement (Statement-F.Write id l e))

pub own-Print : (id l : ℕ) (format : Bytes) (args : List Expr) → own_doing (s.Print id l format args) ≡ Some (Does id (Prints format args))
own-Print id l format args = ap own_doing (sym (s.rolls-Print id l format args)) ∙ ap own_step (out-roll-Statement (Statement-F.Print id l format args))

pub own-Heap : (id l : ℕ) (to : Target) (cast : Option CType) (n : Amount) → own_doing (s.Heap id l to cast n) ≡ Some (Does id (Allocates to n))
own-Heap id l to cast n = ap own_doing (sym (s.rolls-Heap id l to cast n)) ∙ ap own_step (out-roll-Statement (Statement-F.Heap id l to cast n))

pub own-Release : (id l : ℕ) (e : Expr) → own_doing (s.Release id l e) ≡ Some (Does id (Frees e))
own-Release id l e = ap own_doing (sym (s.rolls-Release id l e)) ∙ ap own_step (out-roll-Statement (Statement-F.Release id l e))

pub own-If : (id l : ℕ) (e : Expr) (a b : List Statement) → own_doing (s.If id l e a b) ≡ Some (Does id (Tests e))
own-If id l e a b = ap own_doing (sym (s.rolls-If id l e a b)) ∙ ap own_step (out-roll-Statement (Statement-F.If id l e a b))

pub own-While : (id l : ℕ) (e : Expr) (b : List Statement) → own_doing (s.While id l e b) ≡ Some (Does id (Tests e))
own-While id l e b = ap own_doing (sym (s.rolls-While id l e b)) ∙ ap own_step (out-roll-Statement (Statement-F.While id l e b))

pub own-Do : (id l : ℕ) (e : Expr) (b : List Statement) → own_doing (s.Do id l e b) ≡ Some (Does id (Tests e))
own-Do id l e b = ap own_doing (sym (s.rolls-Do id l e b)) ∙ ap own_step (out-roll-Statement (Statement-F.Do id l e b))

pub own-For : (id l : ℕ) (i : Option Statement) (e : Expr) (k : Option Statement) (b : List Statement) → own_doing (s.For id l i e k b) ≡ Some (Does id (Tests e))
own-For id l i e k b = ap own_doing (sym (s.rolls-For id l i e k b)) ∙ ap own_step (out-roll-Statement (Statement-F.For id l i e k b))

pub own-Switch : (id l : ℕ) (e : Expr) (b : List Arm) → own_doing (s.Switch id l e b) ≡ Some (Does id (Tests e))
own-Switch id l e b = ap own_doing (sym (s.rolls-Switch id l e b)) ∙ ap own_step (out-roll-Statement (Statement-F.Switch id l e b))

pub own-Block : (l : ℕ) (b : List Statement) → own_doing (s.Block l b) ≡ None
own-Block l b = ap own_doing (sym (s.rolls-Block l b)) ∙ ap own_step (out-roll-Statement (Statement-F.Block l b))

pub own-Return : (id l : ℕ) (e : Option Expr) → own_doing (s.Return id l e) ≡ Some (Does id (Returns e))
own-Return id l e = ap own_doing (sym (s.rolls-Return id l e)) ∙ ap own_step (out-roll-Statement (Statement-F.Return id l e))

pub ruleset own_of = (own-Declare, own-Assign, own-Bump, own-Invoke, own-Fetch, own-Write, own-Print, own-Heap, own-Release, own-If, own-While, own-Do, own-For, own-Switch, own-Block, own-Return)
