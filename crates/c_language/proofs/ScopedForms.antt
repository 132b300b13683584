-- The phrases of each form of statement, with the scope after it, as equations.
use Rattle.std.proofs.Common.{◌≡◌, ℕ, Bool, List, map, Option, Some, None, option_map, sym, ap, ◌∙◌}
use Rattle.c_arith.specs.declared.operators.BinaryOp.{BinaryOp}
use Rattle.c_tree.specs.declared.raw.expr.RawExpr.{RawExpr}
use Rattle.c_tree.specs.declared.raw.expr.RawVar.{RawVar}
use Rattle.c_tree.specs.declared.raw.program.RawInit.{RawInit}
use Rattle.c_tree.specs.declared.raw.program.RawProgram.{RawProgram}
use Rattle.c_tree.specs.declared.raw.statement.RawTypeName.{RawTypeName}
use Rattle.c_tree.specs.declared.raw.statement.RawTarget.{RawTarget}
use Rattle.c_tree.specs.declared.raw.statement.RawArg.{RawArg}
use Rattle.c_tree.specs.declared.raw.statement.RawAmount.{RawAmount}
use Rattle.c_tree.specs.declared.raw.statement.RawLabel.{RawLabel}
use Rattle.c_tree.specs.declared.raw.statement.RawStatement.{RawStatement, fold-roll-RawStatement}
use Rattle.c_tree.specs.declared.raw.statement.RawStatement.TheOpen.{RawStatement-F}
use Rattle.c_tree.specs.declared.raw.statement.RawStatement.TheVariants as s
use Rattle.c_tree.specs.declared.raw.statement.RawArm.{RawArm, roll-RawArm, fold-roll-RawArm}
use Rattle.c_language.specs.Words.{Bytes}
use Rattle.c_language.specs.Scopes.{Scoped}
use Rattle.c_language.specs.Phrases.{Stand, Phrases, ArmText, scoped_step, scoped_arm, scoped, scoped_of_arm}

module _ (raw : RawProgram) where
  pub scoped-Declare : (l : ℕ) (v : RawVar) (i : RawInit) → scoped raw (s.Declare l v i) ≡ scoped_step raw (RawStatement-F.Declare l v i)
  scoped-Declare l v i = ap (scoped raw) (sym (s.rolls-Declare l v i)) ∙ fold-roll-RawStatement (Scoped (Stand → Phrases)) (Scoped ArmText) (scoped_step raw) (scoped_arm) (RawStatement-F.Declare l v i)

  pub scoped-Assign : (l : ℕ) (a : RawExpr) (op : Option BinaryOp) (b : RawExpr) → scoped raw (s.Assign l a op b) ≡ scoped_step raw (RawStatement-F.Assign l a op b)
  scoped-Assign l a op b = ap (scoped raw) (sym (s.rolls-Assign l a op b)) ∙ fold-roll-RawStatement (Scoped (Stand → Phrases)) (Scoped ArmText) (scoped_step raw) (scoped_arm) (RawStatement-F.Assign l a op b)

  pub scoped-Bump : (l : ℕ) (a : RawExpr) (up before : Bool) → scoped raw (s.Bump l a up before) ≡ scoped_step raw (RawStatement-F.Bump l a up before)
  scoped-Bump l a up before = ap (scoped raw) (sym (s.rolls-Bump l a up before)) ∙ fold-roll-RawStatement (Scoped (Stand → Phrases)) (Scoped ArmText) (scoped_step raw) (scoped_arm) (RawStatement-F.Bump l a up before)

  pub scoped-Call : (l : ℕ) (to : RawTarget) (f : Bytes) (args : List RawArg) → scoped raw (s.Call l to f args) ≡ scoped_step raw (RawStatement-F.Call l to f args)
  scoped-Call l to f args = ap (scoped raw) (sym (s.rolls-Call l to f args)) ∙ fold-roll-RawStatement (Scoped (Stand → Phrases)) (Scoped ArmText) (scoped_step raw) (scoped_arm) (RawStatement-F.Call l to f args)

  pub scoped-Heap : (l : ℕ) (to : RawTarget) (cast : Option RawTypeName) (n : RawAmount) → scoped raw (s.Heap l to cast n) ≡ scoped_step raw (RawStatement-F.Heap l to cast n)
  scoped-Heap l to cast n = ap (scoped raw) (sym (s.rolls-Heap l to cast n)) ∙ fold-roll-RawStatement (Scoped (Stand → Phrases)) (Scoped ArmText) (scoped_step raw) (scoped_arm) (RawStatement-F.Heap l to cast n)

  pub scoped-If : (l : ℕ) (e : RawExpr) (a b : List RawStatement) → scoped raw (s.If l e a b) ≡ scoped_step raw (RawStatement-F.If l e (map (scoped raw) a) (map (scoped raw) b))
  scoped-If l e a b = ap (scoped raw) (sym (s.rolls-If l e a b)) ∙ fold-roll-RawStatement (Scoped (Stand → Phrases)) (Scoped ArmText) (scoped_step raw) (scoped_arm) (RawStatement-F.If l e a b)

  pub scoped-While : (l : ℕ) (e : RawExpr) (b : List RawStatement) → scoped raw (s.While l e b) ≡ scoped_step raw (RawStatement-F.While l e (map (scoped raw) b))
  scoped-While l e b = ap (scoped raw) (sym (s.rolls-While l e b)) ∙ fold-roll-RawStatement (Scoped (Stand → Phrases)) (Scoped ArmText) (scoped_step raw) (scoped_arm) (RawStatement-F.While l e b)

  pub scoped-Do : (l : ℕ) (e : RawExpr) (b : List RawStatement) → scoped raw (s.Do l e b) ≡ scoped_step raw (RawStatement-F.Do l e (map (scoped raw) b))
  scoped-Do l e b = ap (scoped raw) (sym (s.rolls-Do l e b)) ∙ fold-roll-RawStatement (Scoped (Stand → Phrases)) (Scoped ArmText) (scoped_step raw) (scoped_arm) (RawStatement-F.Do l e b)

  pub scoped-Switch : (l : ℕ) (e : RawExpr) (arms : List RawArm) → scoped raw (s.Switch l e arms) ≡ scoped_step raw (RawStatement-F.Switch l e (map (scoped_of_arm raw) arms))
  scoped-Switch l e arms = ap (scoped raw) (sym (s.rolls-Switch l e arms)) ∙ fold-roll-RawStatement (Scoped (Stand → Phrases)) (Scoped ArmText) (scoped_step raw) (scoped_arm) (RawStatement-F.Switch l e arms)

  pub scoped-Block : (l : ℕ) (b : List RawStatement) → scoped raw (s.Block l b) ≡ scoped_step raw (RawStatement-F.Block l (map (scoped raw) b))
  scoped-Block l b = ap (scoped raw) (sym (s.rolls-Block l b)) ∙ fold-roll-RawStatement (Scoped (Stand → Phrases)) (Scoped ArmText) (scoped_step raw) (scoped_arm) (RawStatement-F.Block l b)

  pub scoped-Return : (l : ℕ) (e : Option RawExpr) → scoped raw (s.Return l e) ≡ scoped_step raw (RawStatement-F.Return l e)
  scoped-Return l e = ap (scoped raw) (sym (s.rolls-Return l e)) ∙ fold-roll-RawStatement (Scoped (Stand → Phrases)) (Scoped ArmText) (scoped_step raw) (scoped_arm) (RawStatement-F.Return l e)

  pub scoped-For : (l : ℕ) (i : Option RawStatement) (e : RawExpr) (step : Option RawStatement) (b : List RawStatement) → scoped raw (s.For l i e step b) ≡ scoped_step raw (RawStatement-F.For l (option_map (scoped raw) i) e (option_map (scoped raw) step) (map (scoped raw) b))
  scoped-For l None e None b = ap (scoped raw) (sym (s.rolls-For l None e None b)) ∙ fold-roll-RawStatement (Scoped (Stand → Phrases)) (Scoped ArmText) (scoped_step raw) (scoped_arm) (RawStatement-F.For l None e None b)
  scoped-For l None e (Some step) b = ap (scoped raw) (sym (s.rolls-For l None e (Some step) b)) ∙ fold-roll-RawStatement (Scoped (Stand → Phrases)) (Scoped ArmText) (scoped_step raw) (scoped_arm) (RawStatement-F.For l None e (Some step) b)
  scoped-For l (Some i) e None b = ap (scoped raw) (sym (s.rolls-For l (Some i) e None b)) ∙ fold-roll-RawStatement (Scoped (Stand → Phrases)) (Scoped ArmText) (scoped_step raw) (scoped_arm) (RawStatement-F.For l (Some i) e None b)
  scoped-For l (Some i) e (Some step) b = ap (scoped raw) (sym (s.rolls-For l (Some i) e (Some step) b)) ∙ fold-roll-RawStatement (Scoped (Stand → Phrases)) (Scoped ArmText) (scoped_step raw) (scoped_arm) (RawStatement-F.For l (Some i) e (Some step) b)

  pub scoped_of_arm-arm : (labels : List RawLabel) (body : List RawStatement) → scoped_of_arm raw (roll-RawArm (record { labels = labels; body = body })) ≡ scoped_arm (record { labels = labels; body = map (scoped raw) body })
  scoped_of_arm-arm labels body = fold-roll-RawArm (Scoped (Stand → Phrases)) (Scoped ArmText) (scoped_step raw) (scoped_arm) (record { labels = labels; body = body })
