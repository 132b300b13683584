-- The nesting of each statement, as an equation.
use Rattle.std.proofs.Common.{◌≡◌, ℕ, ◌+◌, max, List, map, Option, Some, None, Bool, sym, ap, ◌∙◌}
use Rattle.c_arith.specs.declared.operators.BinaryOp.{BinaryOp}
use Rattle.c_tree.specs.declared.raw.expr.RawExpr.{RawExpr}
use Rattle.c_tree.specs.declared.raw.expr.RawVar.{RawVar}
use Rattle.c_tree.specs.declared.raw.program.RawInit.{RawInit}
use Rattle.c_tree.specs.declared.raw.statement.RawTarget.{RawTarget}
use Rattle.c_tree.specs.declared.raw.statement.RawArg.{RawArg}
use Rattle.c_tree.specs.declared.raw.statement.RawTypeName.{RawTypeName}
use Rattle.c_tree.specs.declared.raw.statement.RawAmount.{RawAmount}
use Rattle.c_tree.specs.declared.raw.statement.RawLabel.{RawLabel}
use Rattle.c_tree.specs.declared.raw.statement.RawArm.{RawArm, fold-roll-RawArm, fold-RawArm}
use Rattle.c_tree.specs.declared.raw.statement.RawStatement.{RawStatement, fold-roll-RawStatement}
use Rattle.c_tree.specs.declared.raw.statement.RawStatement.TheOpen.{RawStatement-F}
use Rattle.c_tree.specs.declared.raw.statement.RawStatement.TheVariants as s
use Rattle.c_language.specs.Words.{Bytes}
use Rattle.c_language.specs.Nesting.{nesting, type_nesting}
use Rattle.c_language.specs.StatementGrammar.{arm}
use Rattle.c_language.specs.StatementNesting.{call_nesting, heap_nesting, stored_nesting, init_nesting, label_nesting, of_value, statement_step, arm_step, statement_nesting, body_nesting}
use Rattle.c_language.specs.Lists.{greatest}

abbrev pub arm_nesting : RawArm → ℕ
arm_nesting = fold-RawArm ℕ ℕ statement_step arm_step

abbrev pub arms_nesting : List RawArm → ℕ
arms_nesting arms = greatest (map arm_nesting arms)

pub nesting-Declare : (l : ℕ) (v : RawVar) (i : RawInit) → statement_nesting (s.Declare l v i) ≡ max (type_nesting v.shape) (init_nesting i)
nesting-Declare l v i = ap statement_nesting (sym (s.rolls-Declare l v i)) ∙ fold-roll-RawStatement ℕ ℕ statement_step arm_step (RawStatement-F.Declare l v i)

pub nesting-Assign : (l : ℕ) (a : RawExpr) (op : Option BinaryOp) (b : RawExpr) → statement_nesting (s.Assign l a op b) ≡ 1 + max (nesting a) (nesting b)
nesting-Assign l a op b = ap statement_nesting (sym (s.rolls-Assign l a op b)) ∙ fold-roll-RawStatement ℕ ℕ statement_step arm_step (RawStatement-F.Assign l a op b)

pub nesting-Bump : (l : ℕ) (a : RawExpr) (up before : Bool) → statement_nesting (s.Bump l a up before) ≡ 1 + nesting a
nesting-Bump l a up before = ap statement_nesting (sym (s.rolls-Bump l a up before)) ∙ fold-roll-RawStatement ℕ ℕ statement_step arm_step (RawStatement-F.Bump l a up before)

pub nesting-Call : (l : ℕ) (t : RawTarget) (w : Bytes) (args : List RawArg) → statement_nesting (s.Call l t w args) ≡ stored_nesting t (call_nesting args)
nesting-Call l t w args = ap statement_nesting (sym (s.rolls-Call l t w args)) ∙ fold-roll-RawStatement ℕ ℕ statement_step arm_step (RawStatement-F.Call l t w args)

pub nesting-Heap : (l : ℕ) (t : RawTarget) (cast : Option RawTypeName) (n : RawAmount) → statement_nesting (s.Heap l t cast n) ≡ stored_nesting t (heap_nesting cast n)
nesting-Heap l t cast n = ap statement_nesting (sym (s.rolls-Heap l t cast n)) ∙ fold-roll-RawStatement ℕ ℕ statement_step arm_step (RawStatement-F.Heap l t cast n)

pub nesting-If : (l : ℕ) (a : RawExpr) (all other : List RawStatement) → statement_nesting (s.If l a all other) ≡ 1 + max (nesting a) (max (body_nesting all) (body_nesting other))
nesting-If l a all other = ap statement_nesting (sym (s.rolls-If l a all other)) ∙ fold-roll-RawStatement ℕ ℕ statement_step arm_step (RawStatement-F.If l a all other)

pub nesting-While : (l : ℕ) (a : RawExpr) (all : List RawStatement) → statement_nesting (s.While l a all) ≡ 1 + max (nesting a) (body_nesting all)
nesting-While l a all = ap statement_nesting (sym (s.rolls-While l a all)) ∙ fold-roll-RawStatement ℕ ℕ statement_step arm_step (RawStatement-F.While l a all)

pub nesting-Do : (l : ℕ) (a : RawExpr) (all : List RawStatement) → statement_nesting (s.Do l a all) ≡ 1 + max (body_nesting all) (nesting a)
nesting-Do l a all = ap statement_nesting (sym (s.rolls-Do l a all)) ∙ fold-roll-RawStatement ℕ ℕ statement_step arm_step (RawStatement-F.Do l a all)

abbrev pub part_nesting : Option RawStatement → ℕ
part_nesting None = 0
part_nesting (Some a) = statement_nesting a

pub nesting-For : (l : ℕ) (first : Option RawStatement) (a : RawExpr) (step : Option RawStatement) (all : List RawStatement)
    → statement_nesting (s.For l first a step all) ≡ 1 + max (part_nesting first) (max (nesting a) (max (part_nesting step) (body_nesting all)))
nesting-For l None a None all = ap statement_nesting (sym (s.rolls-For l None a None all)) ∙ fold-roll-RawStatement ℕ ℕ statement_step arm_step (RawStatement-F.For l None a None all)
nesting-For l None a (Some y) all = ap statement_nesting (sym (s.rolls-For l None a (Some y) all)) ∙ fold-roll-RawStatement ℕ ℕ statement_step arm_step (RawStatement-F.For l None a (Some y) all)
nesting-For l (Some x) a None all = ap statement_nesting (sym (s.rolls-For l (Some x) a None all)) ∙ fold-roll-RawStatement ℕ ℕ statement_step arm_step (RawStatement-F.For l (Some x) a None all)
nesting-For l (Some x) a (Some y) all = ap statement_nesting (sym (s.rolls-For l (Some x) a (Some y) all)) ∙ fold-roll-RawStatement ℕ ℕ statement_step arm_step (RawStatement-F.For l (Some x) a (Some y) all)

pub nesting-Switch : (l : ℕ) (a : RawExpr) (arms : List RawArm) → statement_nesting (s.Switch l a arms) ≡ 1 + max (nesting a) (arms_nesting arms)
nesting-Switch l a arms = ap statement_nesting (sym (s.rolls-Switch l a arms)) ∙ fold-roll-RawStatement ℕ ℕ statement_step arm_step (RawStatement-F.Switch l a arms)

pub nesting-Block : (l : ℕ) (all : List RawStatement) → statement_nesting (s.Block l all) ≡ 1 + body_nesting all
nesting-Block l all = ap statement_nesting (sym (s.rolls-Block l all)) ∙ fold-roll-RawStatement ℕ ℕ statement_step arm_step (RawStatement-F.Block l all)

pub nesting-Return : (l : ℕ) (a : Option RawExpr) → statement_nesting (s.Return l a) ≡ of_value a
nesting-Return l a = ap statement_nesting (sym (s.rolls-Return l a)) ∙ fold-roll-RawStatement ℕ ℕ statement_step arm_step (RawStatement-F.Return l a)

pub nesting-arm : (labels : List RawLabel) (body : List RawStatement) → arm_nesting (arm labels body) ≡ max (greatest (map label_nesting labels)) (body_nesting body)
nesting-arm labels body = fold-roll-RawArm ℕ ℕ statement_step arm_step (record { labels = labels; body = body })
