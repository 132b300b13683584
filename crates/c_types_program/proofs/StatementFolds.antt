-- What a fold gives of each statement of the text that holds others, as equations.
use Rattle.std.proofs.Common.{◌≡◌, ℕ, List, map, Option, Some, None, sym, ap, ◌∙◌}
use Rattle.c_tree.specs.declared.raw.expr.RawExpr.{RawExpr}
use Rattle.c_tree.specs.declared.raw.statement.RawLabel.{RawLabel}
use Rattle.c_tree.specs.declared.raw.statement.RawArm.{RawArm, fold-RawArm, fold-roll-RawArm}
use Rattle.c_tree.specs.declared.raw.statement.RawStatement.{RawStatement, fold-RawStatement, fold-roll-RawStatement}
use Rattle.c_tree.specs.declared.raw.statement.RawStatement.TheOpen.{RawStatement-F, RawArm-F}
use Rattle.c_tree.specs.declared.raw.statement.RawStatement.TheVariants as s
use Rattle.c_language.specs.StatementGrammar.{arm}

module _ (A B : Type 0) (step : RawStatement-F A B → A) (arm_step : RawArm-F A B → B) where
  abbrev folded : RawStatement → A
  folded = fold-RawStatement A B step arm_step

  abbrev folded_arm : RawArm → B
  folded_arm = fold-RawArm A B step arm_step

  pub fold-If : (l : ℕ) (a : RawExpr) (all other : List RawStatement)
      → folded (s.If l a all other) ≡ step (RawStatement-F.If l a (map folded all) (map folded other))
  fold-If l a all other = ap folded (sym (s.rolls-If l a all other)) ∙ fold-roll-RawStatement A B step arm_step (RawStatement-F.If l a all other)

  pub fold-While : (l : ℕ) (a : RawExpr) (all : List RawStatement) → folded (s.While l a all) ≡ step (RawStatement-F.While l a (map folded all))
  fold-While l a all = ap folded (sym (s.rolls-While l a all)) ∙ fold-roll-RawStatement A B step arm_step (RawStatement-F.While l a all)

  pub fold-Do : (l : ℕ) (a : RawExpr) (all : List RawStatement) → folded (s.Do l a all) ≡ step (RawStatement-F.Do l a (map folded all))
  fold-Do l a all = ap folded (sym (s.rolls-Do l a all)) ∙ fold-roll-RawStatement A B step arm_step (RawStatement-F.Do l a all)

  abbrev pub folded_part : Option RawStatement → Option A
  folded_part None = None
  folded_part (Some a) = Some (folded a)

  pub fold-For : (l : ℕ) (first : Option RawStatement) (a : RawExpr) (next : Option RawStatement) (all : List RawStatement)
      → folded (s.For l first a next all) ≡ step (RawStatement-F.For l (folded_part first) a (folded_part next) (map folded all))
  fold-For l None a None all = ap folded (sym (s.rolls-For l None a None all)) ∙ fold-roll-RawStatement A B step arm_step (RawStatement-F.For l None a None all)
  fold-For l None a (Some y) all = ap folded (sym (s.rolls-For l None a (Some y) all)) ∙ fold-roll-RawStatement A B step arm_step (RawStatement-F.For l None a (Some y) all)
  fold-For l (Some x) a None all = ap folded (sym (s.rolls-For l (Some x) a None all)) ∙ fold-roll-RawStatement A B step arm_step (RawStatement-F.For l (Some x) a None all)
  fold-For l (Some x) a (Some y) all = ap folded (sym (s.rolls-For l (Some x) a (Some y) all)) ∙ fold-roll-RawStatement A B step arm_step (RawStatement-F.For l (Some x) a (Some y) all)

  pub fold-Switch : (l : ℕ) (a : RawExpr) (arms : List RawArm) → folded (s.Switch l a arms) ≡ step (RawStatement-F.Switch l a (map folded_arm arms))
  fold-Switch l a arms = ap folded (sym (s.rolls-Switch l a arms)) ∙ fold-roll-RawStatement A B step arm_step (RawStatement-F.Switch l a arms)

  pub fold-Block : (l : ℕ) (all : List RawStatement) → folded (s.Block l all) ≡ step (RawStatement-F.Block l (map folded all))
  fold-Block l all = ap folded (sym (s.rolls-Block l all)) ∙ fold-roll-RawStatement A B step arm_step (RawStatement-F.Block l all)

  pub fold-arm : (labels : List RawLabel) (body : List RawStatement)
      → folded_arm (arm labels body) ≡ arm_step (record { labels = labels; body = map folded body })
  fold-arm labels body = fold-roll-RawArm A B step arm_step (record { labels = labels; body = body })
