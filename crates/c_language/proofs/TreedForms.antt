-- Each form of statement in the tree, with the scope after it, as equations.
use Rattle.std.proofs.Common.{◌≡◌, ℕ, Bool, List, map, Option, Some, None, option_map, sym, ap, ◌∙◌}
use Rattle.c_arith.specs.declared.operators.BinaryOp.{BinaryOp}
use Rattle.c_tree.specs.declared.raw.expr.RawExpr.{RawExpr}
use Rattle.c_tree.specs.declared.raw.expr.RawVar.{RawVar}
use Rattle.c_tree.specs.declared.raw.program.RawInit.{RawInit}
use Rattle.c_tree.specs.declared.raw.program.RawProgram.{RawProgram}
use Rattle.c_tree.specs.declared.raw.statement.RawTypeName.{RawTypeName}
use Rattle.c_tree.specs.declared.raw.statement.RawTarget.{RawTarget}
use Rattle.c_tree.specs.declared.raw.statement.RawArg.{RawArg}
use Rattle.c_tree.specs.declared.raw.statement.RawAmount.{RawAmount}
use Rattle.c_tree.specs.declared.raw.statement.RawLabel.{RawLabel}
use Rattle.c_tree.specs.declared.raw.statement.RawStatement.{RawStatement, fold-roll-RawStatement}
use Rattle.c_tree.specs.declared.raw.statement.RawStatement.TheOpen.{RawStatement-F}
use Rattle.c_tree.specs.declared.raw.statement.RawStatement.TheVariants as s
use Rattle.c_tree.specs.declared.raw.statement.RawArm.{RawArm, roll-RawArm, fold-roll-RawArm}
use Rattle.c_language.specs.Words.{Bytes}
use Rattle.c_language.specs.Scopes.{Scoped}
use Rattle.c_tree.specs.declared.statement.Statement.{Statement}
use Rattle.c_language.specs.ProgramOf.{ArmTree, treed_step, arm_tree_step, treed, treed_arm}

module _ (raw : RawProgram) where
  pub treed-Declare : (l : ℕ) (v : RawVar) (i : RawInit) → treed raw (s.Declare l v i) ≡ treed_step raw (RawStatement-F.Declare l v i)
  treed-Declare l v i = ap (treed raw) (sym (s.rolls-Declare l v i)) ∙ fold-roll-RawStatement (Scoped (Option Statement)) (Scoped ArmTree) (treed_step raw) (arm_tree_step raw) (RawStatement-F.Declare l v i)

  pub treed-Assign : (l : ℕ) (a : RawExpr) (op : Option BinaryOp) (b : RawExpr) → treed raw (s.Assign l a op b) ≡ treed_step raw (RawStatement-F.Assign l a op b)
  treed-Assign l a op b = ap (treed raw) (sym (s.rolls-Assign l a op b)) ∙ fold-roll-RawStatement (Scoped (Option Statement)) (Scoped ArmTree) (treed_step raw) (arm_tree_step raw) (RawStatement-F.Assign l a op b)

  pub treed-Bump : (l : ℕ) (a : RawExpr) (up before : Bool) → treed raw (s.Bump l a up before) ≡ treed_step raw (RawStatement-F.Bump l a up before)
  treed-Bump l a up before = ap (treed raw) (sym (s.rolls-Bump l a up before)) ∙ fold-roll-RawStatement (Scoped (Option Statement)) (Scoped ArmTree) (treed_step raw) (arm_tree_step raw) (RawStatement-F.Bump l a up before)

  pub treed-Call : (l : ℕ) (to : RawTarget) (f : Bytes) (args : List RawArg) → treed raw (s.Call l to f args) ≡ treed_step raw (RawStatement-F.Call l to f args)
  treed-Call l to f args = ap (treed raw) (sym (s.rolls-Call l to f args)) ∙ fold-roll-RawStatement (Scoped (Option Statement)) (Scoped ArmTree) (treed_step raw) (arm_tree_step raw) (RawStatement-F.Call l to f args)

  pub treed-Heap : (l : ℕ) (to : RawTarget) (cast : Option RawTypeName) (n : RawAmount) → treed raw (s.Heap l to cast n) ≡ treed_step raw (RawStatement-F.Heap l to cast n)
  treed-Heap l to cast n = ap (treed raw) (sym (s.rolls-Heap l to cast n)) ∙ fold-roll-RawStatement (Scoped (Option Statement)) (Scoped ArmTree) (treed_step raw) (arm_tree_step raw) (RawStatement-F.Heap l to cast n)

  pub treed-If : (l : ℕ) (e : RawExpr) (a b : List RawStatement) → treed raw (s.If l e a b) ≡ treed_step raw (RawStatement-F.If l e (map (treed raw) a) (map (treed raw) b))
  treed-If l e a b = ap (treed raw) (sym (s.rolls-If l e a b)) ∙ fold-roll-RawStatement (Scoped (Option Statement)) (Scoped ArmTree) (treed_step raw) (arm_tree_step raw) (RawStatement-F.If l e a b)

  pub treed-While : (l : ℕ) (e : RawExpr) (b : List RawStatement) → treed raw (s.While l e b) ≡ treed_step raw (RawStatement-F.While l e (map (treed raw) b))
  treed-While l e b = ap (treed raw) (sym (s.rolls-While l e b)) ∙ fold-roll-RawStatement (Scoped (Option Statement)) (Scoped ArmTree) (treed_step raw) (arm_tree_step raw) (RawStatement-F.While l e b)

  pub treed-Do : (l : ℕ) (e : RawExpr) (b : List RawStatement) → treed raw (s.Do l e b) ≡ treed_step raw (RawStatement-F.Do l e (map (treed raw) b))
  treed-Do l e b = ap (treed raw) (sym (s.rolls-Do l e b)) ∙ fold-roll-RawStatement (Scoped (Option Statement)) (Scoped ArmTree) (treed_step raw) (arm_tree_step raw) (RawStatement-F.Do l e b)

  pub treed-Switch : (l : ℕ) (e : RawExpr) (arms : List RawArm) → treed raw (s.Switch l e arms) ≡ treed_step raw (RawStatement-F.Switch l e (map (treed_arm raw) arms))
  treed-Switch l e arms = ap (treed raw) (sym (s.rolls-Switch l e arms)) ∙ fold-roll-RawStatement (Scoped (Option Statement)) (Scoped ArmTree) (treed_step raw) (arm_tree_step raw) (RawStatement-F.Switch l e arms)

  pub treed-Block : (l : ℕ) (b : List RawStatement) → treed raw (s.Block l b) ≡ treed_step raw (RawStatement-F.Block l (map (treed raw) b))
  treed-Block l b = ap (treed raw) (sym (s.rolls-Block l b)) ∙ fold-roll-RawStatement (Scoped (Option Statement)) (Scoped ArmTree) (treed_step raw) (arm_tree_step raw) (RawStatement-F.Block l b)

  pub treed-Return : (l : ℕ) (e : Option RawExpr) → treed raw (s.Return l e) ≡ treed_step raw (RawStatement-F.Return l e)
  treed-Return l e = ap (treed raw) (sym (s.rolls-Return l e)) ∙ fold-roll-RawStatement (Scoped (Option Statement)) (Scoped ArmTree) (treed_step raw) (arm_tree_step raw) (RawStatement-F.Return l e)

  pub treed-For : (l : ℕ) (i : Option RawStatement) (e : RawExpr) (step : Option RawStatement) (b : List RawStatement) → treed raw (s.For l i e step b) ≡ treed_step raw (RawStatement-F.For l (option_map (treed raw) i) e (option_map (treed raw) step) (map (treed raw) b))
  treed-For l None e None b = ap (treed raw) (sym (s.rolls-For l None e None b)) ∙ fold-roll-RawStatement (Scoped (Option Statement)) (Scoped ArmTree) (treed_step raw) (arm_tree_step raw) (RawStatement-F.For l None e None b)
  treed-For l None e (Some step) b = ap (treed raw) (sym (s.rolls-For l None e (Some step) b)) ∙ fold-roll-RawStatement (Scoped (Option Statement)) (Scoped ArmTree) (treed_step raw) (arm_tree_step raw) (RawStatement-F.For l None e (Some step) b)
  treed-For l (Some i) e None b = ap (treed raw) (sym (s.rolls-For l (Some i) e None b)) ∙ fold-roll-RawStatement (Scoped (Option Statement)) (Scoped ArmTree) (treed_step raw) (arm_tree_step raw) (RawStatement-F.For l (Some i) e None b)
  treed-For l (Some i) e (Some step) b = ap (treed raw) (sym (s.rolls-For l (Some i) e (Some step) b)) ∙ fold-roll-RawStatement (Scoped (Option Statement)) (Scoped ArmTree) (treed_step raw) (arm_tree_step raw) (RawStatement-F.For l (Some i) e (Some step) b)

  pub treed_arm-arm : (labels : List RawLabel) (body : List RawStatement) → treed_arm raw (roll-RawArm (record { labels = labels; body = body })) ≡ arm_tree_step raw (record { labels = labels; body = map (treed raw) body })
  treed_arm-arm labels body = fold-roll-RawArm (Scoped (Option Statement)) (Scoped ArmTree) (treed_step raw) (arm_tree_step raw) (record { labels = labels; body = body })
