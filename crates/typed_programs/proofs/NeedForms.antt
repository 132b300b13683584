-- What the switches in each form of statement are over, and the variables that begin in it, as equations.
use Rattle.std.proofs.Common.{◌≡◌, ℕ, List, [], ◌∷◌, ◌++◌, map, Bool, Option, Some, None, sym, refl, ap, ◌∙◌}
use Rattle.c_arith.specs.declared.operators.BinaryOp.{BinaryOp}
use Rattle.c_tree.specs.declared.types.CType.{CType}
use Rattle.c_tree.specs.declared.expr.Expr.{Expr}
use Rattle.c_tree.specs.declared.program.Init.{Init}
use Rattle.c_tree.specs.declared.statement.Amount.{Amount}
use Rattle.c_tree.specs.declared.statement.Target.{Target}
use Rattle.c_tree.specs.declared.statement.Statement.{Statement, fold-roll-Statement}
use Rattle.c_tree.specs.declared.statement.Statement.TheOpen.{Statement-F}
use Rattle.c_tree.specs.declared.statement.Statement.TheVariants as s
use Rattle.c_tree.specs.declared.statement.Arm.{Arm, fold-Arm, fold-roll-Arm}
use Rattle.c_language.specs.Words.{Bytes}
use Rattle.typed_programs.specs.Needs.{Need, Picks, joined, needs_step, needs_arm, needs, body_needs}

abbrev pub arm_needs : Arm → List Need
arm_needs = fold-Arm (List Need) (List Need) needs_step needs_arm

abbrev pub arms_needs : List Arm → List Need
arms_needs [] = []
arms_needs (a ∷ as_) = body_needs a.body ++ arms_needs as_

abbrev pub part_needs : Option Statement → List Need
part_needs None = []
part_needs (Some x) = needs x

all-needs : (b : List Statement) → joined (map needs b) ≡ body_needs b
all-needs [] = refl
all-needs (x ∷ b) = ap (λ es. needs x ++ es) (all-needs b)

arm-needs : (a : Arm) → arm_needs a ≡ body_needs a.body
arm-needs a = fold-roll-Arm (List Need) (List Need) needs_step needs_arm (record { labels = a.labels; body = a.body }) ∙ all-needs a.body

all-arms : (b : List Arm) → joined (map arm_needs b) ≡ arms_needs b
all-arms [] = refl
all-arms (a ∷ b) = ap (λ es. es ++ joined (map arm_needs b)) (arm-needs a) ∙ ap (λ es. body_needs a.body ++ es) (all-arms b)

pub needs-Declare : (id : Option ℕ) (l x : ℕ) (i : Init) → needs (s.Declare id l x i) ≡ needs_step (Statement-F.Declare id l x i)
needs-Declare id l x i =
    ap needs (sym (s.rolls-Declare id l x i)) ∙ fold-roll-Statement (List Need) (List Need) needs_step needs_arm (Statement-F.Declare id l x i)

pub needs-Assign : (id l : ℕ) (a : Expr) (op : Option BinaryOp) (b : Expr) → needs (s.Assign id l a op b) ≡ needs_step (Statement-F.Assign id l a op b)
needs-Assign id l a op b =
    ap needs (sym (s.rolls-Assign id l a op b)) ∙ fold-roll-Statement (List Need) (List Need) needs_step needs_arm (Statement-F.Assign id l a op b)

pub needs-Bump : (id l : ℕ) (a : Expr) (up before : Bool) → needs (s.Bump id l a up before) ≡ needs_step (Statement-F.Bump id l a up before)
needs-Bump id l a up before =
    ap needs (sym (s.rolls-Bump id l a up before)) ∙ fold-roll-Statement (List Need) (List Need) needs_step needs_arm (Statement-F.Bump id l a up before)

pub needs-Invoke : (id l : ℕ) (to : Target) (f : ℕ) (args : List Expr) → needs (s.Invoke id l to f args) ≡ needs_step (Statement-F.Invoke id l to f args)
needs-Invoke id l to f args =
    ap needs (sym (s.rolls-Invoke id l to f args)) ∙ fold-roll-Statement (List Need) (List Need) needs_step needs_arm (Statement-F.Invoke id l to f args)

pub needs-Fetch : (id l : ℕ) (to : Target) → needs (s.Fetch id l to) ≡ needs_step (Statement-F.Fetch id l to)
needs-Fetch id l to =
    ap needs (sym (s.rolls-Fetch id l to)) ∙ fold-roll-Statement (List Need) (List Need) needs_step needs_arm (Statement-F.Fetch id l to)

pub needs-Write : (id l : ℕ) (e : Expr) → needs (s.Write id l e) ≡ needs_step (Statement-F.Write id l e)
needs-Write id l e =
    ap needs (sym (s.rolls-Write id l e)) ∙ fold-roll-Statement (List Need) (List Need) needs_step needs_arm (Statement-F.Write id l e)

pub needs-Print : (id l : ℕ) (format : Bytes) (args : List Expr) → needs (s.Print id l format args) ≡ needs_step (Statement-F.Print id l format args)
needs-Print id l format args =
    ap needs (sym (s.rolls-Print id l format args)) ∙ fold-roll-Statement (List Need) (List Need) needs_step needs_arm (Statement-F.Print id l format args)

pub needs-Heap : (id l : ℕ) (to : Target) (cast : Option CType) (n : Amount) → needs (s.Heap id l to cast n) ≡ needs_step (Statement-F.Heap id l to cast n)
needs-Heap id l to cast n =
    ap needs (sym (s.rolls-Heap id l to cast n)) ∙ fold-roll-Statement (List Need) (List Need) needs_step needs_arm (Statement-F.Heap id l to cast n)

pub needs-Release : (id l : ℕ) (e : Expr) → needs (s.Release id l e) ≡ needs_step (Statement-F.Release id l e)
needs-Release id l e =
    ap needs (sym (s.rolls-Release id l e)) ∙ fold-roll-Statement (List Need) (List Need) needs_step needs_arm (Statement-F.Release id l e)

pub needs-Return : (id l : ℕ) (e : Option Expr) → needs (s.Return id l e) ≡ needs_step (Statement-F.Return id l e)
needs-Return id l e =
    ap needs (sym (s.rolls-Return id l e)) ∙ fold-roll-Statement (List Need) (List Need) needs_step needs_arm (Statement-F.Return id l e)

pub needs-If : (id l : ℕ) (e : Expr) (a b : List Statement) → needs (s.If id l e a b) ≡ (body_needs a ++ body_needs b)
needs-If id l e a b =
    ap needs (sym (s.rolls-If id l e a b)) ∙ fold-roll-Statement (List Need) (List Need) needs_step needs_arm (Statement-F.If id l e a b) ∙ ap (λ es. es ++ joined (map needs b)) (all-needs a) ∙ ap (λ es. (body_needs a ++ es)) (all-needs b)

pub needs-While : (id l : ℕ) (e : Expr) (b : List Statement) → needs (s.While id l e b) ≡ body_needs b
needs-While id l e b =
    ap needs (sym (s.rolls-While id l e b)) ∙ fold-roll-Statement (List Need) (List Need) needs_step needs_arm (Statement-F.While id l e b) ∙ all-needs b

pub needs-Do : (id l : ℕ) (e : Expr) (b : List Statement) → needs (s.Do id l e b) ≡ body_needs b
needs-Do id l e b =
    ap needs (sym (s.rolls-Do id l e b)) ∙ fold-roll-Statement (List Need) (List Need) needs_step needs_arm (Statement-F.Do id l e b) ∙ all-needs b

pub needs-Switch : (id l : ℕ) (e : Expr) (b : List Arm) → needs (s.Switch id l e b) ≡ Picks e ∷ arms_needs b
needs-Switch id l e b =
    ap needs (sym (s.rolls-Switch id l e b)) ∙ fold-roll-Statement (List Need) (List Need) needs_step needs_arm (Statement-F.Switch id l e b) ∙ ap (λ es. Picks e ∷ es) (all-arms b)

pub needs-Block : (l : ℕ) (b : List Statement) → needs (s.Block l b) ≡ body_needs b
needs-Block l b =
    ap needs (sym (s.rolls-Block l b)) ∙ fold-roll-Statement (List Need) (List Need) needs_step needs_arm (Statement-F.Block l b) ∙ all-needs b

pub needs-For : (id l : ℕ) (i : Option Statement) (e : Expr) (k : Option Statement) (b : List Statement) → needs (s.For id l i e k b) ≡ (part_needs i ++ (part_needs k ++ body_needs b))
needs-For id l None e None b =
    ap needs (sym (s.rolls-For id l None e None b)) ∙ fold-roll-Statement (List Need) (List Need) needs_step needs_arm (Statement-F.For id l None e None b) ∙ ap (λ es. [] ++ ([] ++ es)) (all-needs b)
needs-For id l None e (Some k) b =
    ap needs (sym (s.rolls-For id l None e (Some k) b)) ∙ fold-roll-Statement (List Need) (List Need) needs_step needs_arm (Statement-F.For id l None e (Some k) b) ∙ ap (λ es. [] ++ (needs k ++ es)) (all-needs b)
needs-For id l (Some i) e None b =
    ap needs (sym (s.rolls-For id l (Some i) e None b)) ∙ fold-roll-Statement (List Need) (List Need) needs_step needs_arm (Statement-F.For id l (Some i) e None b) ∙ ap (λ es. needs i ++ ([] ++ es)) (all-needs b)
needs-For id l (Some i) e (Some k) b =
    ap needs (sym (s.rolls-For id l (Some i) e (Some k) b)) ∙ fold-roll-Statement (List Need) (List Need) needs_step needs_arm (Statement-F.For id l (Some i) e (Some k) b) ∙ ap (λ es. needs i ++ (needs k ++ es)) (all-needs b)
