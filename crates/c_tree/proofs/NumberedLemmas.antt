-- What `starts` is at each variant.
use Rattle.std.proofs.Common.{◌≡◌, ℕ, Bool, List, [], ◌∷◌, ◌++◌, map, Option, Some, None, sym, ap, ◌∙◌, refl}
use Rattle.c_arith.specs.declared.operators.BinaryOp.{BinaryOp}
use Rattle.c_tree.specs.declared.types.CType.{CType}
use Rattle.c_tree.specs.declared.expr.Expr.{Expr}
use Rattle.c_tree.specs.declared.program.Init.{Init}
use Rattle.c_tree.specs.declared.statement.Target.{Target}
use Rattle.c_tree.specs.declared.statement.Label.{Label}
use Rattle.c_tree.specs.declared.statement.Amount.{Amount}
use Rattle.c_tree.specs.declared.statement.Statement.{Statement, fold-roll-Statement}
use Rattle.c_tree.specs.declared.statement.Statement.TheOpen.{Statement-F}
use Rattle.c_tree.specs.declared.statement.Statement.TheVariants as s
use Rattle.c_tree.specs.declared.statement.Arm.{Arm, roll-Arm, fold-roll-Arm, fold-Arm}
use Rattle.c_tree.specs.Numbered.{Starts, start, all, declared_start, starts_step, arm_starts, starts, body_starts}

-- the numbered statements of an arm
abbrev pub starts_of_arm : Arm → Starts
starts_of_arm = fold-Arm Starts Starts starts_step arm_starts

abbrev pub arms_starts : List Arm → Starts
arms_starts [] = []
arms_starts (a ∷ rest) = starts_of_arm a ++ arms_starts rest

abbrev pub part_starts : Option Statement → Starts
part_starts None = []
part_starts (Some s) = starts s

pub all-starts : (b : List Statement) → all (map starts b) ≡ body_starts b
all-starts [] = refl
all-starts (one ∷ rest) = ap (λ found. starts one ++ found) (all-starts rest)

pub all-starts_of_arm : (arms : List Arm) → all (map starts_of_arm arms) ≡ arms_starts arms
all-starts_of_arm [] = refl
all-starts_of_arm (a ∷ rest) = ap (λ found. starts_of_arm a ++ found) (all-starts_of_arm rest)

pub starts-Declare : (id : Option ℕ) (l x : ℕ) (init : Init) → starts (s.Declare id l x init) ≡ declared_start id l
starts-Declare id l x init =
    ap starts (sym (s.rolls-Declare id l x init)) ∙ fold-roll-Statement Starts Starts starts_step arm_starts (Statement-F.Declare id l x init)

pub starts-Assign : (id l : ℕ) (left : Expr) (op : Option BinaryOp) (right : Expr) → starts (s.Assign id l left op right) ≡ start id l ∷ []
starts-Assign id l left op right =
    ap starts (sym (s.rolls-Assign id l left op right)) ∙ fold-roll-Statement Starts Starts starts_step arm_starts (Statement-F.Assign id l left op right)

pub starts-Bump : (id l : ℕ) (a : Expr) (up before : Bool) → starts (s.Bump id l a up before) ≡ start id l ∷ []
starts-Bump id l a up before =
    ap starts (sym (s.rolls-Bump id l a up before)) ∙ fold-roll-Statement Starts Starts starts_step arm_starts (Statement-F.Bump id l a up before)

pub starts-Invoke : (id l : ℕ) (to : Target) (f : ℕ) (args : List Expr) → starts (s.Invoke id l to f args) ≡ start id l ∷ []
starts-Invoke id l to f args =
    ap starts (sym (s.rolls-Invoke id l to f args)) ∙ fold-roll-Statement Starts Starts starts_step arm_starts (Statement-F.Invoke id l to f args)

pub starts-Fetch : (id l : ℕ) (to : Target) → starts (s.Fetch id l to) ≡ start id l ∷ []
starts-Fetch id l to =
    ap starts (sym (s.rolls-Fetch id l to)) ∙ fold-roll-Statement Starts Starts starts_step arm_starts (Statement-F.Fetch id l to)

pub starts-Write : (id l : ℕ) (e : Expr) → starts (s.Write id l e) ≡ start id l ∷ []
starts-Write id l e =
    ap starts (sym (s.rolls-Write id l e)) ∙ fold-roll-Statement Starts Starts starts_step arm_starts (Statement-F.Write id l e)

pub starts-Print : (id l : ℕ) (format : List ℕ) (args : List Expr) → starts (s.Print id l format args) ≡ start id l ∷ []
starts-Print id l format args =
    ap starts (sym (s.rolls-Print id l format args)) ∙ fold-roll-Statement Starts Starts starts_step arm_starts (Statement-F.Print id l format args)

pub starts-Heap : (id l : ℕ) (to : Target) (cast : Option CType) (n : Amount) → starts (s.Heap id l to cast n) ≡ start id l ∷ []
starts-Heap id l to cast n =
    ap starts (sym (s.rolls-Heap id l to cast n)) ∙ fold-roll-Statement Starts Starts starts_step arm_starts (Statement-F.Heap id l to cast n)

pub starts-Release : (id l : ℕ) (e : Expr) → starts (s.Release id l e) ≡ start id l ∷ []
starts-Release id l e =
    ap starts (sym (s.rolls-Release id l e)) ∙ fold-roll-Statement Starts Starts starts_step arm_starts (Statement-F.Release id l e)

pub starts-If : (id l : ℕ) (e : Expr) (a b : List Statement) → starts (s.If id l e a b) ≡ start id l ∷ (body_starts a ++ body_starts b)
starts-If id l e a b =
    ap starts (sym (s.rolls-If id l e a b)) ∙ fold-roll-Statement Starts Starts starts_step arm_starts (Statement-F.If id l e a b) ∙ rw (all-starts a, all-starts b) refl

pub starts-While : (id l : ℕ) (e : Expr) (b : List Statement) → starts (s.While id l e b) ≡ start id l ∷ body_starts b
starts-While id l e b =
    ap starts (sym (s.rolls-While id l e b)) ∙ fold-roll-Statement Starts Starts starts_step arm_starts (Statement-F.While id l e b) ∙ ap (λ found. start id l ∷ found) (all-starts b)

pub starts-Do : (id l : ℕ) (e : Expr) (b : List Statement) → starts (s.Do id l e b) ≡ start id l ∷ body_starts b
starts-Do id l e b =
    ap starts (sym (s.rolls-Do id l e b)) ∙ fold-roll-Statement Starts Starts starts_step arm_starts (Statement-F.Do id l e b) ∙ ap (λ found. start id l ∷ found) (all-starts b)

pub starts-For : (id l : ℕ) (i : Option Statement) (e : Expr) (step : Option Statement) (b : List Statement) → starts (s.For id l i e step b) ≡ start id l ∷ (part_starts i ++ (part_starts step ++ body_starts b))
starts-For id l None e None b =
    ap starts (sym (s.rolls-For id l None e None b)) ∙ fold-roll-Statement Starts Starts starts_step arm_starts (Statement-F.For id l None e None b) ∙ rw (all-starts b) refl
starts-For id l None e (Some step) b =
    ap starts (sym (s.rolls-For id l None e (Some step) b)) ∙ fold-roll-Statement Starts Starts starts_step arm_starts (Statement-F.For id l None e (Some step) b) ∙ rw (all-starts b) refl
starts-For id l (Some i) e None b =
    ap starts (sym (s.rolls-For id l (Some i) e None b)) ∙ fold-roll-Statement Starts Starts starts_step arm_starts (Statement-F.For id l (Some i) e None b) ∙ rw (all-starts b) refl
starts-For id l (Some i) e (Some step) b =
    ap starts (sym (s.rolls-For id l (Some i) e (Some step) b)) ∙ fold-roll-Statement Starts Starts starts_step arm_starts (Statement-F.For id l (Some i) e (Some step) b) ∙ rw (all-starts b) refl

pub starts-Switch : (id l : ℕ) (e : Expr) (arms : List Arm) → starts (s.Switch id l e arms) ≡ start id l ∷ arms_starts arms
starts-Switch id l e arms =
    ap starts (sym (s.rolls-Switch id l e arms)) ∙ fold-roll-Statement Starts Starts starts_step arm_starts (Statement-F.Switch id l e arms) ∙ ap (λ found. start id l ∷ found) (all-starts_of_arm arms)

pub starts-Block : (l : ℕ) (b : List Statement) → starts (s.Block l b) ≡ body_starts b
starts-Block l b =
    ap starts (sym (s.rolls-Block l b)) ∙ fold-roll-Statement Starts Starts starts_step arm_starts (Statement-F.Block l b) ∙ all-starts b

pub starts-Return : (id l : ℕ) (e : Option Expr) → starts (s.Return id l e) ≡ start id l ∷ []
starts-Return id l e =
    ap starts (sym (s.rolls-Return id l e)) ∙ fold-roll-Statement Starts Starts starts_step arm_starts (Statement-F.Return id l e)

pub starts_of_arm-roll : (labels : List Label) (b : List Statement) → starts_of_arm (roll-Arm (record { labels = labels; body = b })) ≡ body_starts b
starts_of_arm-roll labels b =
    fold-roll-Arm Starts Starts starts_step arm_starts (record { labels = labels; body = b }) ∙ all-starts b

-- What `starts` is at each variant.
pub ruleset starts_steps = (starts-Declare, starts-Assign, starts-Bump, starts-Invoke, starts-Fetch, starts-Write, starts-Print, starts-Heap, starts-Release, starts-If, starts-While, starts-Do, starts-For, starts-Switch, starts-Block, starts-Return, starts_of_arm-roll)
