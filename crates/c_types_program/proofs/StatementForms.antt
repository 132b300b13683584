-- The tree and the phrases of a for and of an arm, by their parts, as equations.
use Rattle.std.proofs.Common.{◌≡◌, ℕ, List, map, Option}
use Rattle.c_tree.specs.declared.statement.Statement.{Statement}
use Rattle.c_tree.specs.declared.raw.expr.RawExpr.{RawExpr}
use Rattle.c_tree.specs.declared.raw.program.RawProgram.{RawProgram}
use Rattle.c_tree.specs.declared.raw.statement.RawLabel.{RawLabel}
use Rattle.c_tree.specs.declared.raw.statement.RawStatement.{RawStatement}
use Rattle.c_tree.specs.declared.raw.statement.RawStatement.TheOpen.{RawStatement-F}
use Rattle.c_tree.specs.declared.raw.statement.RawStatement.TheVariants as s
use Rattle.c_language.specs.Scopes.{Scoped}
use Rattle.c_language.specs.StatementGrammar.{arm}
use Rattle.c_language.specs.Phrases.{Stand, Phrases, ArmText, scoped_step, scoped_arm, scoped, scoped_of_arm}
use Rattle.c_language.specs.ProgramOf.{ArmTree, arm_tree_step, treed_step, treed, treed_arm}
use Rattle.c_types_program.proofs.StatementFolds.{fold-For, fold-arm, folded_part}

module _ (raw : RawProgram) where
  -- a part of a for, which may be missing
  abbrev pub treed_part : Option RawStatement → Option (Scoped (Option Statement))
  treed_part = folded_part (Scoped (Option Statement)) (Scoped ArmTree) (treed_step raw) (arm_tree_step raw)

  abbrev pub scoped_part : Option RawStatement → Option (Scoped (Stand → Phrases))
  scoped_part = folded_part (Scoped (Stand → Phrases)) (Scoped ArmText) (scoped_step raw) scoped_arm

  pub treed-For : (l : ℕ) (first : Option RawStatement) (a : RawExpr) (next : Option RawStatement) (all : List RawStatement) → treed raw (s.For l first a next all) ≡ treed_step raw (RawStatement-F.For l (treed_part first) a (treed_part next) (map (treed raw) all))
  treed-For l first a next all = fold-For (Scoped (Option Statement)) (Scoped ArmTree) (treed_step raw) (arm_tree_step raw) l first a next all

  pub treed-arm : (labels : List RawLabel) (body : List RawStatement) → treed_arm raw (arm labels body) ≡ arm_tree_step raw (record { labels = labels; body = map (treed raw) body })
  treed-arm labels body = fold-arm (Scoped (Option Statement)) (Scoped ArmTree) (treed_step raw) (arm_tree_step raw) labels body

  pub scoped-For : (l : ℕ) (first : Option RawStatement) (a : RawExpr) (next : Option RawStatement) (all : List RawStatement) → scoped raw (s.For l first a next all) ≡ scoped_step raw (RawStatement-F.For l (scoped_part first) a (scoped_part next) (map (scoped raw) all))
  scoped-For l first a next all = fold-For (Scoped (Stand → Phrases)) (Scoped ArmText) (scoped_step raw) scoped_arm l first a next all

  pub scoped-arm : (labels : List RawLabel) (body : List RawStatement) → scoped_of_arm raw (arm labels body) ≡ scoped_arm (record { labels = labels; body = map (scoped raw) body })
  scoped-arm labels body = fold-arm (Scoped (Stand → Phrases)) (Scoped ArmText) (scoped_step raw) scoped_arm labels body
