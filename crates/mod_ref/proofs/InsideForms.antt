-- What stands in each form of statement, as equations; and a statement does what it does itself, and then what those in it do.
use Rattle.std.proofs.Common.{◌≡◌, ℕ, List, [], ◌∷◌, ◌++◌, map, Option, Some, None, refl, sym, ap, ap₂, ◌∙◌}
use Rattle.c_tree.specs.declared.expr.Expr.{Expr}
use Rattle.c_tree.specs.declared.statement.Statement.{Statement, out-Statement, map-Statement, fold-roll-Statement, out-roll-Statement}
use Rattle.c_tree.specs.declared.statement.Statement.TheViews.{roll-out-Statement}
use Rattle.c_tree.specs.declared.statement.Statement.TheOpen.{Statement-F}
use Rattle.c_tree.specs.declared.statement.Statement.TheVariants as s
use Rattle.c_tree.specs.declared.statement.Arm.{Arm, fold-Arm, fold-roll-Arm}
use Rattle.dep_model.specs.Doings.{Doing, joined, doing_step, doing_arm, doings, body_doings}
use Rattle.effect_rows.specs.Own.{own_step}
use Rattle.mod_ref.specs.Own.{one_of, own_doings, arms_doings, part_doings, inside_step, inside_doings, last_step, last_doings}

pub inside-If : (t : Statement) (id l : ℕ) (e : Expr) (a b : List Statement) → t ≡ s.If id l e a b → inside_doings t ≡ body_doings a ++ body_doings b
inside-If t id l e a b same = ap inside_doings (same ∙ sym (s.rolls-If id l e a b)) ∙ ap inside_step (out-roll-Statement (Statement-F.If id l e a b))

pub inside-For : (t : Statement) (id l : ℕ) (i : Option Statement) (e : Expr) (k : Option Statement) (b : List Statement) → t ≡ s.For id l i e k b → inside_doings t ≡ part_doings i ++ (part_doings k ++ body_doings b)
inside-For t id l i e k b same = ap inside_doings (same ∙ sym (s.rolls-For id l i e k b)) ∙ ap inside_step (out-roll-Statement (Statement-F.For id l i e k b))

pub last-If : (t : Statement) (id l : ℕ) (e : Expr) (a b : List Statement) → t ≡ s.If id l e a b → last_doings t ≡ body_doings b
last-If t id l e a b same = ap last_doings (same ∙ sym (s.rolls-If id l e a b)) ∙ ap last_step (out-roll-Statement (Statement-F.If id l e a b))

pub last-For : (t : Statement) (id l : ℕ) (i : Option Statement) (e : Expr) (k : Option Statement) (b : List Statement) → t ≡ s.For id l i e k b → last_doings t ≡ body_doings b
last-For t id l i e k b same = ap last_doings (same ∙ sym (s.rolls-For id l i e k b)) ∙ ap last_step (out-roll-Statement (Statement-F.For id l i e k b))

-- ---- the statement itself, and then those in it

abbrev arm_doings : Arm → List Doing
arm_doings = fold-Arm (List Doing) (List Doing) doing_step doing_arm

all_joined : (b : List Statement) → joined (map doings b) ≡ body_doings b
all_joined [] = refl
all_joined (x ∷ b) = ap (λ ds. doings x ++ ds) (all_joined b)

one_arm : (a : Arm) → arm_doings a ≡ body_doings a.body
one_arm a = fold-roll-Arm (List Doing) (List Doing) doing_step doing_arm (record { labels = a.labels; body = a.body }) ∙ all_joined a.body

arms_joined : (b : List Arm) → joined (map arm_doings b) ≡ arms_doings b
arms_joined [] = refl
arms_joined (a ∷ b) = ap₂ (λ (ds es : List Doing). ds ++ es) (one_arm a) (arms_joined b)

layered : (t : Statement) → doings t ≡ doing_step (map-Statement Statement Arm (List Doing) (List Doing) doings arm_doings (out-Statement t))
layered t = ap doings (sym (roll-out-Statement t)) ∙ fold-roll-Statement (List Doing) (List Doing) doing_step doing_arm (out-Statement t)

in_layer : (z : Statement-F Statement Arm) → doing_step (map-Statement Statement Arm (List Doing) (List Doing) doings arm_doings z) ≡ one_of (own_step z) ++ inside_step z
in_layer (Statement-F.Declare None l x init) = refl
in_layer (Statement-F.Declare (Some id) l x init) = refl
in_layer (Statement-F.Assign id l left op right) = refl
in_layer (Statement-F.Bump id l a up before) = refl
in_layer (Statement-F.Invoke id l to f args) = refl
in_layer (Statement-F.Fetch id l to) = refl
in_layer (Statement-F.Write id l e) = refl
in_layer (Statement-F.Print id l format args) = refl
in_layer (Statement-F.Heap id l to cast n) = refl
in_layer (Statement-F.Release id l e) = refl
in_layer (Statement-F.If id l e a b) = ap₂ (λ (ds es : List Doing). one_of (own_step (Statement-F.If id l e a b)) ++ (ds ++ es)) (all_joined a) (all_joined b)
in_layer (Statement-F.While id l e b) = ap (λ (ds : List Doing). one_of (own_step (Statement-F.While id l e b)) ++ ds) (all_joined b)
in_layer (Statement-F.Do id l e b) = ap (λ (ds : List Doing). one_of (own_step (Statement-F.Do id l e b)) ++ ds) (all_joined b)
in_layer (Statement-F.For id l None e None b) = ap (λ (ds : List Doing). one_of (own_step (Statement-F.For id l None e None b)) ++ ds) (all_joined b)
in_layer (Statement-F.For id l None e (Some k) b) = ap (λ (ds : List Doing). one_of (own_step (Statement-F.For id l None e (Some k) b)) ++ (doings k ++ ds)) (all_joined b)
in_layer (Statement-F.For id l (Some i) e None b) = ap (λ (ds : List Doing). one_of (own_step (Statement-F.For id l (Some i) e None b)) ++ (doings i ++ ds)) (all_joined b)
in_layer (Statement-F.For id l (Some i) e (Some k) b) = ap (λ (ds : List Doing). one_of (own_step (Statement-F.For id l (Some i) e (Some k) b)) ++ (doings i ++ (doings k ++ ds))) (all_joined b)
in_layer (Statement-F.Switch id l e b) = ap (λ (ds : List Doing). one_of (own_step (Statement-F.Switch id l e b)) ++ ds) (arms_joined b)
in_layer (Statement-F.Block l b) = all_joined b
in_layer (Statement-F.Return id l e) = refl

pub own_and_inside : (t : Statement) → doings t ≡ own_doings t ++ inside_doings t
own_and_inside t = layered t ∙ in_layer (out-Statement t)
