-- The calls of the parts of a statement are those of the statement.
use Rattle.std.proofs.Common.{◌≡◌, ℕ, List, [], ◌∷◌, ◌++◌, Option, Some, None, refl, ap, ap₂, ◌∙◌}
use Rattle.c_tree.specs.declared.expr.Expr.{Expr}
use Rattle.c_tree.specs.declared.statement.Arm.{Arm}
use Rattle.c_tree.specs.declared.statement.Statement.{Statement}
use Rattle.c_tree.specs.declared.statement.Statement.TheVariants as s
use Rattle.c_language.proofs.Turns.{IsEach}
use Rattle.dep_model.specs.Doings.{Doing, Does, Calls, doings, body_doings}
use Rattle.dep_model.proofs.DoingForms as forms
use Rattle.sdg.specs.CallSites.{site, sites_in}
use Rattle.sdg.specs.CallWalk.{arm_doings, arms_doings, part_doings}

module _ (f : ℕ) where
  pub sites_append : (a b : List Doing) → sites_in f (a ++ b) ≡ sites_in f a ++ sites_in f b
  sites_append [] b = refl
  sites_append (Does i x ∷ a) b = sites_append a b
  sites_append (Calls i to g args ∷ a) b = ap (λ xs. site f i g ∷ xs) (sites_append a b)

  pub each_statement : IsEach (λ x. sites_in f (doings x)) (λ xs. sites_in f (body_doings xs))
  each_statement = record { at_nothing = refl; at_more = λ x xs. sites_append (doings x) (body_doings xs) }

  pub each_arm : IsEach (λ a. sites_in f (arm_doings a)) (λ as_. sites_in f (arms_doings as_))
  each_arm = record { at_nothing = refl; at_more = λ a as_. sites_append (arm_doings a) (arms_doings as_) }

  same_arms : (as_ : List Arm) → forms.arms_doings as_ ≡ arms_doings as_
  same_arms [] = refl
  same_arms (a ∷ as_) = ap (λ ds. body_doings a.body ++ ds) (same_arms as_)

  same_part : (x : Option Statement) → forms.part_doings x ≡ part_doings x
  same_part None = refl
  same_part (Some x) = refl

  pub sites-Block : (l : ℕ) (b : List Statement) → sites_in f (doings (s.Block l b)) ≡ sites_in f (body_doings b)
  sites-Block l b = ap (sites_in f) (forms.doings-Block l b)

  pub sites-While : (id l : ℕ) (e : Expr) (b : List Statement) → sites_in f (doings (s.While id l e b)) ≡ sites_in f (body_doings b)
  sites-While id l e b = ap (sites_in f) (forms.doings-While id l e b)

  pub sites-Do : (id l : ℕ) (e : Expr) (b : List Statement) → sites_in f (doings (s.Do id l e b)) ≡ sites_in f (body_doings b)
  sites-Do id l e b = ap (sites_in f) (forms.doings-Do id l e b)

  pub sites-If : (id l : ℕ) (e : Expr) (a b : List Statement)
      → sites_in f (doings (s.If id l e a b)) ≡ sites_in f (body_doings a) ++ sites_in f (body_doings b)
  sites-If id l e a b = ap (sites_in f) (forms.doings-If id l e a b) ∙ sites_append (body_doings a) (body_doings b)

  pub sites-Switch : (id l : ℕ) (e : Expr) (as_ : List Arm) → sites_in f (doings (s.Switch id l e as_)) ≡ sites_in f (arms_doings as_)
  sites-Switch id l e as_ = ap (sites_in f) (forms.doings-Switch id l e as_) ∙ ap (sites_in f) (same_arms as_)

  pub sites-For : (id l : ℕ) (i : Option Statement) (e : Expr) (st : Option Statement) (b : List Statement)
      → sites_in f (doings (s.For id l i e st b)) ≡ sites_in f (part_doings i) ++ (sites_in f (part_doings st) ++ sites_in f (body_doings b))
  sites-For id l i e st b =
      ap (sites_in f) (forms.doings-For id l i e st b)
      ∙ sites_append (forms.part_doings i) (forms.part_doings st ++ body_doings b)
      ∙ ap (λ xs. sites_in f (forms.part_doings i) ++ xs) (sites_append (forms.part_doings st) (body_doings b))
      ∙ ap₂ (λ x y. sites_in f x ++ (sites_in f y ++ sites_in f (body_doings b))) (same_part i) (same_part st)
