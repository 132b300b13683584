-- How many pieces each form of statement is taken apart into, and those of what is left to do.
use Rattle.std.proofs.Common.{◌≡◌, ℕ, ◌+◌, List, [], ◌∷◌, ◌++◌, map, Option, Some, None, Bool, sym, ap, ◌∙◌, arith}
use Rattle.std.specs.Option.{option_to_list}
use Rattle.c_arith.specs.declared.operators.BinaryOp.{BinaryOp}
use Rattle.c_tree.specs.declared.types.CType.{CType}
use Rattle.c_tree.specs.declared.expr.Expr.{Expr}
use Rattle.c_tree.specs.declared.program.Init.{Init}
use Rattle.c_tree.specs.declared.statement.Amount.{Amount}
use Rattle.c_tree.specs.declared.statement.Arm.{Arm}
use Rattle.c_tree.specs.declared.statement.Target.{Target}
use Rattle.c_tree.specs.declared.statement.Statement.{Statement, fold-roll-Statement}
use Rattle.c_tree.specs.declared.statement.Statement.TheOpen.{Statement-F}
use Rattle.c_tree.specs.declared.statement.Statement.TheVariants as s
use Rattle.c_machine.specs.declared.rests.Rest.{Rest}
use Rattle.c_machine.specs.declared.runs.Caller.{Caller}
use Rattle.c_machine.specs.Sizes.{total, size_step, arm_size_step, size, rest_size, left_size, callers_size}

pub left_size-push : (rs : List Rest) (r : Rest) → left_size (rs ++ r ∷ []) ≡ left_size rs + rest_size r
left_size-push [] r = omega arith
left_size-push (q ∷ rs) r = let e = left_size-push rs r in omega (arith, e)

pub callers_size-push : (cs : List Caller) (c : Caller) → callers_size (cs ++ c ∷ []) ≡ callers_size cs + (1 + left_size c.left.items)
callers_size-push [] c = omega arith
callers_size-push (b ∷ cs) c = let e = callers_size-push cs c in omega (arith, e)

pub size-Declare : (id : Option ℕ) (l x : ℕ) (init : Init) → size (s.Declare id l x init) ≡ 3
size-Declare id l x init = ap size (sym (s.rolls-Declare id l x init)) ∙ fold-roll-Statement ℕ ℕ size_step arm_size_step (Statement-F.Declare id l x init)

pub size-Assign : (id l : ℕ) (left : Expr) (op : Option BinaryOp) (right : Expr) → size (s.Assign id l left op right) ≡ 2
size-Assign id l left op right = ap size (sym (s.rolls-Assign id l left op right)) ∙ fold-roll-Statement ℕ ℕ size_step arm_size_step (Statement-F.Assign id l left op right)

pub size-Bump : (id l : ℕ) (a : Expr) (up before : Bool) → size (s.Bump id l a up before) ≡ 2
size-Bump id l a up before = ap size (sym (s.rolls-Bump id l a up before)) ∙ fold-roll-Statement ℕ ℕ size_step arm_size_step (Statement-F.Bump id l a up before)

pub size-Invoke : (id l : ℕ) (to : Target) (f : ℕ) (args : List Expr) → size (s.Invoke id l to f args) ≡ 3
size-Invoke id l to f args = ap size (sym (s.rolls-Invoke id l to f args)) ∙ fold-roll-Statement ℕ ℕ size_step arm_size_step (Statement-F.Invoke id l to f args)

pub size-Fetch : (id l : ℕ) (to : Target) → size (s.Fetch id l to) ≡ 3
size-Fetch id l to = ap size (sym (s.rolls-Fetch id l to)) ∙ fold-roll-Statement ℕ ℕ size_step arm_size_step (Statement-F.Fetch id l to)

pub size-Write : (id l : ℕ) (e : Expr) → size (s.Write id l e) ≡ 2
size-Write id l e = ap size (sym (s.rolls-Write id l e)) ∙ fold-roll-Statement ℕ ℕ size_step arm_size_step (Statement-F.Write id l e)

pub size-Print : (id l : ℕ) (format : List ℕ) (args : List Expr) → size (s.Print id l format args) ≡ 2
size-Print id l format args = ap size (sym (s.rolls-Print id l format args)) ∙ fold-roll-Statement ℕ ℕ size_step arm_size_step (Statement-F.Print id l format args)

pub size-Heap : (id l : ℕ) (to : Target) (cast : Option CType) (n : Amount) → size (s.Heap id l to cast n) ≡ 3
size-Heap id l to cast n = ap size (sym (s.rolls-Heap id l to cast n)) ∙ fold-roll-Statement ℕ ℕ size_step arm_size_step (Statement-F.Heap id l to cast n)

pub size-Release : (id l : ℕ) (e : Expr) → size (s.Release id l e) ≡ 2
size-Release id l e = ap size (sym (s.rolls-Release id l e)) ∙ fold-roll-Statement ℕ ℕ size_step arm_size_step (Statement-F.Release id l e)

pub size-If : (id l : ℕ) (e : Expr) (a b : List Statement) → size (s.If id l e a b) ≡ 2
size-If id l e a b = ap size (sym (s.rolls-If id l e a b)) ∙ fold-roll-Statement ℕ ℕ size_step arm_size_step (Statement-F.If id l e a b)

pub size-While : (id l : ℕ) (e : Expr) (b : List Statement) → size (s.While id l e b) ≡ 2
size-While id l e b = ap size (sym (s.rolls-While id l e b)) ∙ fold-roll-Statement ℕ ℕ size_step arm_size_step (Statement-F.While id l e b)

pub size-Do : (id l : ℕ) (e : Expr) (b : List Statement) → size (s.Do id l e b) ≡ 4 + total (map size b)
size-Do id l e b = ap size (sym (s.rolls-Do id l e b)) ∙ fold-roll-Statement ℕ ℕ size_step arm_size_step (Statement-F.Do id l e b)

pub size-For : (id l : ℕ) (i : Option Statement) (e : Expr) (step : Option Statement) (b : List Statement) → size (s.For id l i e step b) ≡ 4 + total (map size (option_to_list i))
size-For id l None e None b = ap size (sym (s.rolls-For id l None e None b)) ∙ fold-roll-Statement ℕ ℕ size_step arm_size_step (Statement-F.For id l None e None b)
size-For id l None e (Some y) b = ap size (sym (s.rolls-For id l None e (Some y) b)) ∙ fold-roll-Statement ℕ ℕ size_step arm_size_step (Statement-F.For id l None e (Some y) b)
size-For id l (Some x) e None b =
    ap size (sym (s.rolls-For id l (Some x) e None b)) ∙ fold-roll-Statement ℕ ℕ size_step arm_size_step (Statement-F.For id l (Some x) e None b) ∙ omega arith
size-For id l (Some x) e (Some y) b =
    ap size (sym (s.rolls-For id l (Some x) e (Some y) b)) ∙ fold-roll-Statement ℕ ℕ size_step arm_size_step (Statement-F.For id l (Some x) e (Some y) b) ∙ omega arith

pub size-Switch : (id l : ℕ) (e : Expr) (arms : List Arm) → size (s.Switch id l e arms) ≡ 2
size-Switch id l e arms = ap size (sym (s.rolls-Switch id l e arms)) ∙ fold-roll-Statement ℕ ℕ size_step arm_size_step (Statement-F.Switch id l e arms)

pub size-Block : (l : ℕ) (b : List Statement) → size (s.Block l b) ≡ 3 + total (map size b)
size-Block l b = ap size (sym (s.rolls-Block l b)) ∙ fold-roll-Statement ℕ ℕ size_step arm_size_step (Statement-F.Block l b)

pub size-Return : (id l : ℕ) (e : Option Expr) → size (s.Return id l e) ≡ 2
size-Return id l e = ap size (sym (s.rolls-Return id l e)) ∙ fold-roll-Statement ℕ ℕ size_step arm_size_step (Statement-F.Return id l e)
