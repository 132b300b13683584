-- What stays of a statement of each form.
use Rattle.std.proofs.Common.{◌≡◌, ℕ, List, map, Bool, Option, Some, None, option_map, sym, ap, ◌∙◌}
use Rattle.c_arith.specs.declared.operators.BinaryOp.{BinaryOp}
use Rattle.c_tree.specs.declared.raw.expr.RawExpr.{RawExpr}
use Rattle.c_tree.specs.declared.raw.expr.RawVar.{RawVar}
use Rattle.c_tree.specs.declared.raw.program.RawInit.{RawInit}
use Rattle.c_tree.specs.declared.raw.program.RawProgram.{RawProgram}
use Rattle.c_tree.specs.declared.raw.statement.RawArg.{RawArg}
use Rattle.c_tree.specs.declared.raw.statement.RawArm.{RawArm, fold-roll-RawArm}
use Rattle.c_tree.specs.declared.raw.statement.RawLabel.{RawLabel}
use Rattle.c_tree.specs.declared.raw.statement.RawStatement.{RawStatement, roll-RawStatement, map-RawStatement, fold-roll-RawStatement}
use Rattle.c_tree.specs.declared.raw.statement.RawStatement.TheOpen.{RawStatement-F}
use Rattle.c_tree.specs.declared.raw.statement.RawStatement.TheVariants as s
use Rattle.c_tree.specs.declared.raw.statement.RawTarget.{RawTarget}
use Rattle.c_language.specs.Words.{Bytes}
use Rattle.c_language.specs.Scopes.{Scoped}
use Rattle.c_language.specs.StatementGrammar.{arm}
use Rattle.projection.specs.Kept.{Kept}
use Rattle.c_scope_laws.specs.ThinnedBodies.{Left, ArmLeft, left_scoped, left_arm_step, left, left_arm}

module _ (k : Kept Bytes) (raw : RawProgram) where
  -- what stays of a layer of a statement
  abbrev pub layer_left : RawStatement-F RawStatement RawArm → Scoped Left
  layer_left y = left_scoped k raw (map-RawStatement RawStatement RawArm (Scoped Left) (Scoped ArmLeft) (left k raw) (left_arm k raw) y)

  left_as : (y : RawStatement-F RawStatement RawArm) → left k raw (roll-RawStatement y) ≡ layer_left y
  left_as y = fold-roll-RawStatement (Scoped Left) (Scoped ArmLeft) (left_scoped k raw) (left_arm_step k raw) y

  pub left-Declare : (l : ℕ) (v : RawVar) (i : RawInit) → left k raw (s.Declare l v i) ≡ layer_left (RawStatement-F.Declare l v i)
  left-Declare l v i = ap (left k raw) (sym (s.rolls-Declare l v i)) ∙ left_as (RawStatement-F.Declare l v i)

  pub left-Assign : (l : ℕ) (a : RawExpr) (op : Option BinaryOp) (b : RawExpr) → left k raw (s.Assign l a op b) ≡ layer_left (RawStatement-F.Assign l a op b)
  left-Assign l a op b = ap (left k raw) (sym (s.rolls-Assign l a op b)) ∙ left_as (RawStatement-F.Assign l a op b)

  pub left-Bump : (l : ℕ) (a : RawExpr) (up before : Bool) → left k raw (s.Bump l a up before) ≡ layer_left (RawStatement-F.Bump l a up before)
  left-Bump l a up before = ap (left k raw) (sym (s.rolls-Bump l a up before)) ∙ left_as (RawStatement-F.Bump l a up before)

  pub left-Call : (l : ℕ) (to : RawTarget) (f : Bytes) (args : List RawArg) → left k raw (s.Call l to f args) ≡ layer_left (RawStatement-F.Call l to f args)
  left-Call l to f args = ap (left k raw) (sym (s.rolls-Call l to f args)) ∙ left_as (RawStatement-F.Call l to f args)

  pub left-If : (l : ℕ) (a : RawExpr) (b c : List RawStatement) → left k raw (s.If l a b c) ≡ layer_left (RawStatement-F.If l a b c)
  left-If l a b c = ap (left k raw) (sym (s.rolls-If l a b c)) ∙ left_as (RawStatement-F.If l a b c)

  pub left-While : (l : ℕ) (a : RawExpr) (b : List RawStatement) → left k raw (s.While l a b) ≡ layer_left (RawStatement-F.While l a b)
  left-While l a b = ap (left k raw) (sym (s.rolls-While l a b)) ∙ left_as (RawStatement-F.While l a b)

  pub left-Do : (l : ℕ) (a : RawExpr) (b : List RawStatement) → left k raw (s.Do l a b) ≡ layer_left (RawStatement-F.Do l a b)
  left-Do l a b = ap (left k raw) (sym (s.rolls-Do l a b)) ∙ left_as (RawStatement-F.Do l a b)

  pub left-Switch : (l : ℕ) (a : RawExpr) (arms : List RawArm) → left k raw (s.Switch l a arms) ≡ layer_left (RawStatement-F.Switch l a arms)
  left-Switch l a arms = ap (left k raw) (sym (s.rolls-Switch l a arms)) ∙ left_as (RawStatement-F.Switch l a arms)

  pub left-Block : (l : ℕ) (b : List RawStatement) → left k raw (s.Block l b) ≡ layer_left (RawStatement-F.Block l b)
  left-Block l b = ap (left k raw) (sym (s.rolls-Block l b)) ∙ left_as (RawStatement-F.Block l b)

  pub left-Return : (l : ℕ) (a : Option RawExpr) → left k raw (s.Return l a) ≡ layer_left (RawStatement-F.Return l a)
  left-Return l a = ap (left k raw) (sym (s.rolls-Return l a)) ∙ left_as (RawStatement-F.Return l a)

  pub left-For : (l : ℕ) (i : Option RawStatement) (a : RawExpr) (step : Option RawStatement) (b : List RawStatement)
      → left k raw (s.For l i a step b) ≡ left_scoped k raw (RawStatement-F.For l (option_map (left k raw) i) a (option_map (left k raw) step) (map (left k raw) b))
  left-For l None a None b = ap (left k raw) (sym (s.rolls-For l None a None b)) ∙ left_as (RawStatement-F.For l None a None b)
  left-For l None a (Some x) b = ap (left k raw) (sym (s.rolls-For l None a (Some x) b)) ∙ left_as (RawStatement-F.For l None a (Some x) b)
  left-For l (Some i) a None b = ap (left k raw) (sym (s.rolls-For l (Some i) a None b)) ∙ left_as (RawStatement-F.For l (Some i) a None b)
  left-For l (Some i) a (Some x) b = ap (left k raw) (sym (s.rolls-For l (Some i) a (Some x) b)) ∙ left_as (RawStatement-F.For l (Some i) a (Some x) b)

  pub left-arm : (labels : List RawLabel) (body : List RawStatement) → left_arm k raw (arm labels body) ≡ left_arm_step k raw (record { labels = labels; body = map (left k raw) body })
  left-arm labels body = fold-roll-RawArm (Scoped Left) (Scoped ArmLeft) (left_scoped k raw) (left_arm_step k raw) (record { labels = labels; body = body })
