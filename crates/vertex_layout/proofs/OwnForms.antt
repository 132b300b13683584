-- What the forms of statements do, as lists of what is done.
use Rattle.std.proofs.Common.{◌≡◌, ℕ, List, [], ◌∷◌, ◌++◌, Option, Some, None, Bool, refl, sym, ap, ap₂, ◌∙◌}
use Rattle.std.specs.Borrow.{Bor}
use Rattle.std.proofs.lemmas.List.{map-append}
use Rattle.c_arith.specs.declared.operators.BinaryOp.{BinaryOp}
use Rattle.c_tree.specs.declared.types.CType.{CType}
use Rattle.c_tree.specs.declared.expr.Expr.{Expr}
use Rattle.c_tree.specs.declared.program.Function.{Function}
use Rattle.c_tree.specs.declared.program.Init.{Init}
use Rattle.c_tree.specs.declared.statement.Amount.{Amount}
use Rattle.c_tree.specs.declared.statement.Arm.{Arm}
use Rattle.c_tree.specs.declared.statement.Statement.{Statement}
use Rattle.c_tree.specs.declared.statement.Statement.TheVariants as s
use Rattle.c_tree.specs.declared.statement.Target.{Target}
use Rattle.c_language.specs.Words.{Bytes}
use Rattle.c_language.specs.Code.{Begins, Sets, Bumps, Fetches, Writes, Prints, Allocates, Frees, Returns, Tests}
use Rattle.c_language.proofs.Turns.{IsEach}
use Rattle.dep_model.specs.Doings.{Doing, Does, Calls, doings, body_doings, functions_doings}
use Rattle.dep_model.proofs.DoingForms as forms
use Rattle.effect_rows.specs.Own.{own_doing}
use Rattle.effect_rows.proofs.OwnForms as own
use Rattle.vertex_layout.specs.OwnStatements.{own_doings, done, arm_doings, arms_doings, part_doings}

pub done_append : (a b : List Doing) → done (a ++ b) ≡ done a ++ done b
done_append a b = map-append Some a b

pub own_push : (xs : List (Bor Statement)) (x : Bor Statement) → own_doings (xs ++ x ∷ []) ≡ own_doings xs ++ own_doing x.now ∷ []
own_push xs x = map-append (λ (b : Bor Statement). own_doing b.now) xs (x ∷ [])

pub each_statement : IsEach (λ x. done (doings x)) (λ xs. done (body_doings xs))
each_statement = record { at_nothing = refl; at_more = λ x xs. done_append (doings x) (body_doings xs) }

pub each_arm : IsEach (λ a. done (arm_doings a)) (λ as_. done (arms_doings as_))
each_arm = record { at_nothing = refl; at_more = λ a as_. done_append (arm_doings a) (arms_doings as_) }

pub each_function : IsEach (λ (f : Function). done (body_doings f.body)) (λ fs. done (functions_doings fs))
each_function = record { at_nothing = refl; at_more = λ f fs. done_append (body_doings f.body) (functions_doings fs) }

same_arms : (as_ : List Arm) → forms.arms_doings as_ ≡ arms_doings as_
same_arms [] = refl
same_arms (a ∷ as_) = ap (λ ds. body_doings a.body ++ ds) (same_arms as_)

same_part : (x : Option Statement) → forms.part_doings x ≡ part_doings x
same_part None = refl
same_part (Some x) = refl

-- ---- forms without statements in them

pub done-Declare : (id l x : ℕ) (i : Init) → done (doings (s.Declare (Some id) l x i)) ≡ Some (Does id (Begins x i)) ∷ []
done-Declare id l x i = ap done (forms.doings-Declare (Some id) l x i)

pub done-Declare_none : (l x : ℕ) (i : Init) → done (doings (s.Declare None l x i)) ≡ []
done-Declare_none l x i = ap done (forms.doings-Declare None l x i)

pub done-Assign : (id l : ℕ) (a : Expr) (op : Option BinaryOp) (b : Expr) → done (doings (s.Assign id l a op b)) ≡ Some (Does id (Sets a op b)) ∷ []
done-Assign id l a op b = ap done (forms.doings-Assign id l a op b)

pub done-Bump : (id l : ℕ) (a : Expr) (up before : Bool) → done (doings (s.Bump id l a up before)) ≡ Some (Does id (Bumps a up)) ∷ []
done-Bump id l a up before = ap done (forms.doings-Bump id l a up before)

pub done-Invoke : (id l : ℕ) (to : Target) (f : ℕ) (args : List Expr) → done (doings (s.Invoke id l to f args)) ≡ Some (Calls id to f args) ∷ []
done-Invoke id l to f args = ap done (forms.doings-Invoke id l to f args)

pub done-Fetch : (id l : ℕ) (to : Target) → done (doings (s.Fetch id l to)) ≡ Some (Does id (Fetches to)) ∷ []
done-Fetch id l to = ap done (forms.doings-Fetch id l to)

pub done-Write : (id l : ℕ) (e : Expr) → done (doings (s.Write id l e)) ≡ Some (Does id (Writes e)) ∷ []
done-Write id l e = ap done (forms.doings-Write id l e)

pub done-Print : (id l : ℕ) (format : Bytes) (args : List Expr) → done (doings (s.Print id l format args)) ≡ Some (Does id (Prints format args)) ∷ []
done-Print id l format args = ap done (forms.doings-Print id l format args)

pub done-Heap : (id l : ℕ) (to : Target) (cast : Option CType) (n : Amount) → done (doings (s.Heap id l to cast n)) ≡ Some (Does id (Allocates to n)) ∷ []
done-Heap id l to cast n = ap done (forms.doings-Heap id l to cast n)

pub done-Release : (id l : ℕ) (e : Expr) → done (doings (s.Release id l e)) ≡ Some (Does id (Frees e)) ∷ []
done-Release id l e = ap done (forms.doings-Release id l e)

pub done-Return : (id l : ℕ) (e : Option Expr) → done (doings (s.Return id l e)) ≡ Some (Does id (Returns e)) ∷ []
done-Return id l e = ap done (forms.doings-Return id l e)

pub ruleset done_of = (done-Declare, done-Declare_none, done-Assign, done-Bump, done-Invoke, done-Fetch, done-Write, done-Print, done-Heap, done-Release, done-Return)

-- ---- forms with statements in them

pub done-Block : (l : ℕ) (b : List Statement) → done (doings (s.Block l b)) ≡ done (body_doings b)
done-Block l b = ap done (forms.doings-Block l b)

pub done-While : (id l : ℕ) (e : Expr) (b : List Statement) → done (doings (s.While id l e b)) ≡ Some (Does id (Tests e)) ∷ done (body_doings b)
done-While id l e b = ap done (forms.doings-While id l e b)

pub done-Do : (id l : ℕ) (e : Expr) (b : List Statement) → done (doings (s.Do id l e b)) ≡ Some (Does id (Tests e)) ∷ done (body_doings b)
done-Do id l e b = ap done (forms.doings-Do id l e b)

pub done-If : (id l : ℕ) (e : Expr) (a b : List Statement) → done (doings (s.If id l e a b)) ≡ Some (Does id (Tests e)) ∷ (done (body_doings a) ++ done (body_doings b))
done-If id l e a b = ap done (forms.doings-If id l e a b) ∙ ap (λ ds. Some (Does id (Tests e)) ∷ ds) (done_append (body_doings a) (body_doings b))

pub done-Switch : (id l : ℕ) (e : Expr) (as_ : List Arm) → done (doings (s.Switch id l e as_)) ≡ Some (Does id (Tests e)) ∷ done (arms_doings as_)
done-Switch id l e as_ = ap done (forms.doings-Switch id l e as_) ∙ ap (λ ds. Some (Does id (Tests e)) ∷ done ds) (same_arms as_)

pub done-For : (id l : ℕ) (i : Option Statement) (e : Expr) (st : Option Statement) (b : List Statement)
    → done (doings (s.For id l i e st b)) ≡ Some (Does id (Tests e)) ∷ (done (part_doings i) ++ (done (part_doings st) ++ done (body_doings b)))
done-For id l i e st b =
    ap done (forms.doings-For id l i e st b)
    ∙ ap (λ ds. Some (Does id (Tests e)) ∷ ds) (done_append (forms.part_doings i) (forms.part_doings st ++ body_doings b)
    ∙ ap (λ ds. done (forms.part_doings i) ++ ds) (done_append (forms.part_doings st) (body_doings b))
    ∙ ap₂ (λ x y. done x ++ (done y ++ done (body_doings b))) (same_part i) (same_part st))

-- ---- the same, where the statement itself is counted as what it does

pub whole-Block : (x : Statement) (l : ℕ) (b : List Statement) → x ≡ s.Block l b → done (doings x) ≡ done (body_doings b)
whole-Block x l b is = ap (λ y. done (doings y)) is ∙ done-Block l b

pub whole-While : (x : Statement) (id l : ℕ) (e : Expr) (b : List Statement) → x ≡ s.While id l e b → done (doings x) ≡ (own_doing x ∷ []) ++ done (body_doings b)
whole-While x id l e b is = ap (λ y. done (doings y)) is ∙ done-While id l e b ∙ ap (λ d. d ∷ done (body_doings b)) (sym (ap own_doing is ∙ own.own-While id l e b))

pub whole-Do : (x : Statement) (id l : ℕ) (e : Expr) (b : List Statement) → x ≡ s.Do id l e b → done (doings x) ≡ (own_doing x ∷ []) ++ done (body_doings b)
whole-Do x id l e b is = ap (λ y. done (doings y)) is ∙ done-Do id l e b ∙ ap (λ d. d ∷ done (body_doings b)) (sym (ap own_doing is ∙ own.own-Do id l e b))

pub whole-If : (x : Statement) (id l : ℕ) (e : Expr) (a b : List Statement) → x ≡ s.If id l e a b
    → done (doings x) ≡ (own_doing x ∷ []) ++ (done (body_doings a) ++ done (body_doings b))
whole-If x id l e a b is = ap (λ y. done (doings y)) is ∙ done-If id l e a b ∙ ap (λ d. d ∷ (done (body_doings a) ++ done (body_doings b))) (sym (ap own_doing is ∙ own.own-If id l e a b))

pub whole-Switch : (x : Statement) (id l : ℕ) (e : Expr) (as_ : List Arm) → x ≡ s.Switch id l e as_ → done (doings x) ≡ (own_doing x ∷ []) ++ done (arms_doings as_)
whole-Switch x id l e as_ is = ap (λ y. done (doings y)) is ∙ done-Switch id l e as_ ∙ ap (λ d. d ∷ done (arms_doings as_)) (sym (ap own_doing is ∙ own.own-Switch id l e as_))

pub whole-For : (x : Statement) (id l : ℕ) (i : Option Statement) (e : Expr) (st : Option Statement) (b : List Statement) → x ≡ s.For id l i e st b
    → done (doings x) ≡ (own_doing x ∷ []) ++ (done (part_doings i) ++ (done (part_doings st) ++ done (body_doings b)))
whole-For x id l i e st b is =
    ap (λ y. done (doings y)) is ∙ done-For id l i e st b
    ∙ ap (λ d. d ∷ (done (part_doings i) ++ (done (part_doings st) ++ done (body_doings b)))) (sym (ap own_doing is ∙ own.own-For id l i e st b))
