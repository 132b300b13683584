-- What each form of statement does, as equations.
use Rattle.std.proofs.Common.{◌≡◌, ℕ, List, [], ◌∷◌, ◌++◌, map, Bool, true, Option, Some, None, inl, inr, refl, sym, ap, subst, ◌∙◌}
use Rattle.std.specs.Prelude.{Contains}
use Rattle.std.specs.List.{list_all}
use Rattle.std.proofs.lemmas.Bool.{and_parts}
use Rattle.c_arith.specs.declared.operators.BinaryOp.{BinaryOp}
use Rattle.c_tree.specs.declared.types.CType.{CType}
use Rattle.c_tree.specs.declared.expr.Expr.{Expr}
use Rattle.c_tree.specs.declared.program.Init.{Init}
use Rattle.c_tree.specs.declared.statement.Amount.{Amount}
use Rattle.c_tree.specs.declared.statement.Target.{Target}
use Rattle.c_tree.specs.declared.statement.Statement.{Statement, fold-roll-Statement}
use Rattle.c_tree.specs.declared.statement.Statement.TheOpen.{Statement-F}
use Rattle.c_tree.specs.declared.statement.Statement.TheVariants as s
use Rattle.c_tree.specs.declared.statement.Arm.{Arm, fold-Arm, fold-roll-Arm}
use Rattle.c_language.specs.Words.{Bytes}
use Rattle.c_language.specs.Code.{Tests}
use Rattle.rule_closure.proofs.ListLemmas.{contains_none, contains_cases}
use Rattle.dep_model.specs.Doings.{Doing, Does, joined, doing_step, doing_arm, doings, body_doings}

-- what is in a list whose members all pass, passes
pub contained_passes : (test : Doing → Bool) (ds : List Doing) (d : Doing) → list_all test ds ≡ true → Contains ds d → test d ≡ true
contained_passes test [] d h c = absurd (contains_none d c)
contained_passes test (e ∷ ds) d h c =
    let w = and_parts (test e) (list_all test ds) h in
    elim (contains_cases e ds d c) [
      | inl same ↦ subst (λ z. test z ≡ true) same w.0
      | inr more ↦ contained_passes test ds d w.1 more
    ]

abbrev pub arm_doings : Arm → List Doing
arm_doings = fold-Arm (List Doing) (List Doing) doing_step doing_arm

abbrev pub arms_doings : List Arm → List Doing
arms_doings [] = []
arms_doings (a ∷ as_) = body_doings a.body ++ arms_doings as_

abbrev pub part_doings : Option Statement → List Doing
part_doings None = []
part_doings (Some x) = doings x

all-doings : (b : List Statement) → joined (map doings b) ≡ body_doings b
all-doings [] = refl
all-doings (x ∷ b) = ap (λ ds. doings x ++ ds) (all-doings b)

arm-doings : (a : Arm) → arm_doings a ≡ body_doings a.body
arm-doings a = fold-roll-Arm (List Doing) (List Doing) doing_step doing_arm (record { labels = a.labels; body = a.body }) ∙ all-doings a.body

all-arms : (b : List Arm) → joined (map arm_doings b) ≡ arms_doings b
all-arms [] = refl
all-arms (a ∷ b) = ap (λ ds. ds ++ joined (map arm_doings b)) (arm-doings a) ∙ ap (λ ds. body_doings a.body ++ ds) (all-arms b)

pub doings-Declare : (id : Option ℕ) (l x : ℕ) (i : Init) → doings (s.Declare id l x i) ≡ doing_step (Statement-F.Declare id l x i)
doings-Declare id l x i =
    ap doings (sym (s.rolls-Declare id l x i)) ∙ fold-roll-Statement (List Doing) (List Doing) doing_step doing_arm (Statement-F.Declare id l x i)

pub doings-Assign : (id l : ℕ) (a : Expr) (op : Option BinaryOp) (b : Expr) → doings (s.Assign id l a op b) ≡ doing_step (Statement-F.Assign id l a op b)
doings-Assign id l a op b =
    ap doings (sym (s.rolls-Assign id l a op b)) ∙ fold-roll-Statement (List Doing) (List Doing) doing_step doing_arm (Statement-F.Assign id l a op b)

pub doings-Bump : (id l : ℕ) (a : Expr) (up before : Bool) → doings (s.Bump id l a up before) ≡ doing_step (Statement-F.Bump id l a up before)
doings-Bump id l a up before =
    ap doings (sym (s.rolls-Bump id l a up before)) ∙ fold-roll-Statement (List Doing) (List Doing) doing_step doing_arm (Statement-F.Bump id l a up before)

pub doings-Invoke : (id l : ℕ) (to : Target) (f : ℕ) (args : List Expr) → doings (s.Invoke id l to f args) ≡ doing_step (Statement-F.Invoke id l to f args)
doings-Invoke id l to f args =
    ap doings (sym (s.rolls-Invoke id l to f args)) ∙ fold-roll-Statement (List Doing) (List Doing) doing_step doing_arm (Statement-F.Invoke id l to f args)

pub doings-Fetch : (id l : ℕ) (to : Target) → doings (s.Fetch id l to) ≡ doing_step (Statement-F.Fetch id l to)
doings-Fetch id l to =
    ap doings (sym (s.rolls-Fetch id l to)) ∙ fold-roll-Statement (List Doing) (List Doing) doing_step doing_arm (Statement-F.Fetch id l to)

pub doings-Write : (id l : ℕ) (e : Expr) → doings (s.Write id l e) ≡ doing_step (Statement-F.Write id l e)
doings-Write id l e =
    ap doings (sym (s.rolls-Write id l e)) ∙ fold-roll-Statement (List Doing) (List Doing) doing_step doing_arm (Statement-F.Write id l e)

pub doings-Print : (id l : ℕ) (format : Bytes) (args : List Expr) → doings (s.Print id l format args) ≡ doing_step (Statement-F.Print id l format args)
doings-Print id l format args =
    ap doings (sym (s.rolls-Print id l format args)) ∙ fold-roll-Statement (List Doing) (List Doing) doing_step doing_arm (Statement-F.Print id l format args)

pub doings-Heap : (id l : ℕ) (to : Target) (cast : Option CType) (n : Amount) → doings (s.Heap id l to cast n) ≡ doing_step (Statement-F.Heap id l to cast n)
doings-Heap id l to cast n =
    ap doings (sym (s.rolls-Heap id l to cast n)) ∙ fold-roll-Statement (List Doing) (List Doing) doing_step doing_arm (Statement-F.Heap id l to cast n)

pub doings-Release : (id l : ℕ) (e : Expr) → doings (s.Release id l e) ≡ doing_step (Statement-F.Release id l e)
doings-Release id l e =
    ap doings (sym (s.rolls-Release id l e)) ∙ fold-roll-Statement (List Doing) (List Doing) doing_step doing_arm (Statement-F.Release id l e)

pub doings-Return : (id l : ℕ) (e : Option Expr) → doings (s.Return id l e) ≡ doing_step (Statement-F.Return id l e)
doings-Return id l e =
    ap doings (sym (s.rolls-Return id l e)) ∙ fold-roll-Statement (List Doing) (List Doing) doing_step doing_arm (Statement-F.Return id l e)

pub doings-If : (id l : ℕ) (e : Expr) (a b : List Statement) → doings (s.If id l e a b) ≡ Does id (Tests e) ∷ (body_doings a ++ body_doings b)
doings-If id l e a b =
    ap doings (sym (s.rolls-If id l e a b)) ∙ fold-roll-Statement (List Doing) (List Doing) doing_step doing_arm (Statement-F.If id l e a b) ∙ ap (λ ds. Does id (Tests e) ∷ (ds ++ joined (map doings b))) (all-doings a) ∙ ap (λ ds. Does id (Tests e) ∷ (body_doings a ++ ds)) (all-doings b)

pub doings-While : (id l : ℕ) (e : Expr) (b : List Statement) → doings (s.While id l e b) ≡ Does id (Tests e) ∷ body_doings b
doings-While id l e b =
    ap doings (sym (s.rolls-While id l e b)) ∙ fold-roll-Statement (List Doing) (List Doing) doing_step doing_arm (Statement-F.While id l e b) ∙ ap (λ ds. Does id (Tests e) ∷ ds) (all-doings b)

pub doings-Do : (id l : ℕ) (e : Expr) (b : List Statement) → doings (s.Do id l e b) ≡ Does id (Tests e) ∷ body_doings b
doings-Do id l e b =
    ap doings (sym (s.rolls-Do id l e b)) ∙ fold-roll-Statement (List Doing) (List Doing) doing_step doing_arm (Statement-F.Do id l e b) ∙ ap (λ ds. Does id (Tests e) ∷ ds) (all-doings b)

pub doings-Switch : (id l : ℕ) (e : Expr) (b : List Arm) → doings (s.Switch id l e b) ≡ Does id (Tests e) ∷ arms_doings b
doings-Switch id l e b =
    ap doings (sym (s.rolls-Switch id l e b)) ∙ fold-roll-Statement (List Doing) (List Doing) doing_step doing_arm (Statement-F.Switch id l e b) ∙ ap (λ ds. Does id (Tests e) ∷ ds) (all-arms b)

pub doings-Block : (l : ℕ) (b : List Statement) → doings (s.Block l b) ≡ body_doings b
doings-Block l b =
    ap doings (sym (s.rolls-Block l b)) ∙ fold-roll-Statement (List Doing) (List Doing) doing_step doing_arm (Statement-F.Block l b) ∙ all-doings b

pub doings-For : (id l : ℕ) (i : Option Statement) (e : Expr) (k : Option Statement) (b : List Statement) → doings (s.For id l i e k b) ≡ Does id (Tests e) ∷ (part_doings i ++ (part_doings k ++ body_doings b))
doings-For id l None e None b =
    ap doings (sym (s.rolls-For id l None e None b)) ∙ fold-roll-Statement (List Doing) (List Doing) doing_step doing_arm (Statement-F.For id l None e None b) ∙ ap (λ ds. Does id (Tests e) ∷ ([] ++ ([] ++ ds))) (all-doings b)
doings-For id l None e (Some k) b =
    ap doings (sym (s.rolls-For id l None e (Some k) b)) ∙ fold-roll-Statement (List Doing) (List Doing) doing_step doing_arm (Statement-F.For id l None e (Some k) b) ∙ ap (λ ds. Does id (Tests e) ∷ ([] ++ (doings k ++ ds))) (all-doings b)
doings-For id l (Some i) e None b =
    ap doings (sym (s.rolls-For id l (Some i) e None b)) ∙ fold-roll-Statement (List Doing) (List Doing) doing_step doing_arm (Statement-F.For id l (Some i) e None b) ∙ ap (λ ds. Does id (Tests e) ∷ (doings i ++ ([] ++ ds))) (all-doings b)
doings-For id l (Some i) e (Some k) b =
    ap doings (sym (s.rolls-For id l (Some i) e (Some k) b)) ∙ fold-roll-Statement (List Doing) (List Doing) doing_step doing_arm (Statement-F.For id l (Some i) e (Some k) b) ∙ ap (λ ds. Does id (Tests e) ∷ (doings i ++ (doings k ++ ds))) (all-doings b)
