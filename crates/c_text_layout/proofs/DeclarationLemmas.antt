-- Tests of the declarations of a text, at each form.
use Rattle.std.proofs.Common.{◌≡◌, ℕ, ◌&&◌, List, [], ◌∷◌, ◌++◌, map, Bool, true, Option, Some, None, refl, sym, ap, ◌∙◌}
use Rattle.std.proofs.lemmas.Bool.{and_parts, and_from}
use Rattle.c_language.specs.Lists.{all_true}
use Rattle.c_tree.specs.declared.raw.expr.RawExpr.{RawExpr}
use Rattle.c_tree.specs.declared.raw.expr.RawVar.{RawVar}
use Rattle.c_tree.specs.declared.raw.program.RawInit.{RawInit}
use Rattle.c_tree.specs.declared.raw.program.RawItem.{RawItem}
use Rattle.c_tree.specs.declared.raw.statement.RawLabel.{RawLabel}
use Rattle.c_tree.specs.declared.raw.statement.RawStatement.{RawStatement, roll-RawStatement, map-RawStatement, fold-roll-RawStatement}
use Rattle.c_tree.specs.declared.raw.statement.RawStatement.TheOpen.{RawStatement-F}
use Rattle.c_tree.specs.declared.raw.statement.RawStatement.TheVariants as s
use Rattle.c_tree.specs.declared.raw.statement.RawArm.{RawArm, fold-RawArm, fold-roll-RawArm}
use Rattle.c_language.specs.StatementGrammar.{arm}
use Rattle.c_text_layout.specs.Declarations.{declares_step, arm_declares, declarations_pass, item_passes, items_pass}

-- each declaration of the arm passes the test
abbrev pub arm_passes : (RawVar → RawInit → Bool) → RawArm → Bool
arm_passes test = fold-RawArm Bool Bool (declares_step test) arm_declares

-- ---- tests at each form

module _ (test : RawVar → RawInit → Bool) where
  passes : (y : RawStatement-F RawStatement RawArm) → declarations_pass test (roll-RawStatement y) ≡ declares_step test (map-RawStatement RawStatement RawArm Bool Bool (declarations_pass test) (arm_passes test) y)
  passes y = fold-roll-RawStatement Bool Bool (declares_step test) arm_declares y

  pub pass-Declare : (l : ℕ) (v : RawVar) (i : RawInit) → declarations_pass test (s.Declare l v i) ≡ test v i
  pass-Declare l v i = ap (declarations_pass test) (sym (s.rolls-Declare l v i)) ∙ passes (RawStatement-F.Declare l v i)

  abbrev pub list_passes : List RawStatement → Bool
  list_passes xs = all_true (map (declarations_pass test) xs)

  pub pass-If : (l : ℕ) (a : RawExpr) (b c : List RawStatement) → declarations_pass test (s.If l a b c) ≡ (list_passes b && list_passes c)
  pass-If l a b c = ap (declarations_pass test) (sym (s.rolls-If l a b c)) ∙ passes (RawStatement-F.If l a b c)

  pub pass-While : (l : ℕ) (a : RawExpr) (b : List RawStatement) → declarations_pass test (s.While l a b) ≡ list_passes b
  pass-While l a b = ap (declarations_pass test) (sym (s.rolls-While l a b)) ∙ passes (RawStatement-F.While l a b)

  pub pass-Do : (l : ℕ) (a : RawExpr) (b : List RawStatement) → declarations_pass test (s.Do l a b) ≡ list_passes b
  pass-Do l a b = ap (declarations_pass test) (sym (s.rolls-Do l a b)) ∙ passes (RawStatement-F.Do l a b)

  abbrev pub part_passes : Option RawStatement → Bool
  part_passes None = true
  part_passes (Some x) = declarations_pass test x

  pub pass-For : (l : ℕ) (i : Option RawStatement) (a : RawExpr) (step : Option RawStatement) (b : List RawStatement) → declarations_pass test (s.For l i a step b) ≡ (part_passes i && (part_passes step && list_passes b))
  pass-For l None a None b = ap (declarations_pass test) (sym (s.rolls-For l None a None b)) ∙ passes (RawStatement-F.For l None a None b)
  pass-For l None a (Some x) b = ap (declarations_pass test) (sym (s.rolls-For l None a (Some x) b)) ∙ passes (RawStatement-F.For l None a (Some x) b)
  pass-For l (Some i) a None b = ap (declarations_pass test) (sym (s.rolls-For l (Some i) a None b)) ∙ passes (RawStatement-F.For l (Some i) a None b)
  pass-For l (Some i) a (Some x) b = ap (declarations_pass test) (sym (s.rolls-For l (Some i) a (Some x) b)) ∙ passes (RawStatement-F.For l (Some i) a (Some x) b)

  pub pass-Switch : (l : ℕ) (a : RawExpr) (arms : List RawArm) → declarations_pass test (s.Switch l a arms) ≡ all_true (map (arm_passes test) arms)
  pass-Switch l a arms = ap (declarations_pass test) (sym (s.rolls-Switch l a arms)) ∙ passes (RawStatement-F.Switch l a arms)

  pub pass-Block : (l : ℕ) (b : List RawStatement) → declarations_pass test (s.Block l b) ≡ list_passes b
  pass-Block l b = ap (declarations_pass test) (sym (s.rolls-Block l b)) ∙ passes (RawStatement-F.Block l b)

  pub pass-arm : (labels : List RawLabel) (body : List RawStatement) → arm_passes test (arm labels body) ≡ list_passes body
  pass-arm labels body = fold-roll-RawArm Bool Bool (declares_step test) arm_declares (record { labels = labels; body = body })

  -- the two parts of a list pass
  pub lists_parts : (xs ys : List RawStatement) → list_passes (xs ++ ys) ≡ true → (list_passes xs ≡ true) × (list_passes ys ≡ true)
  lists_parts [] ys h = (refl, h)
  lists_parts (x ∷ xs) ys h = let p = and_parts (declarations_pass test x) (list_passes (xs ++ ys)) h in let q = lists_parts xs ys p.1 in (and_from _ _ p.0 q.0, q.1)

  pub items_parts : (xs ys : List RawItem) → items_pass test (xs ++ ys) ≡ true → (items_pass test xs ≡ true) × (items_pass test ys ≡ true)
  items_parts [] ys h = (refl, h)
  items_parts (x ∷ xs) ys h = let p = and_parts (item_passes test x) (items_pass test (xs ++ ys)) h in let q = items_parts xs ys p.1 in (and_from _ _ p.0 q.0, q.1)
