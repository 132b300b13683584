-- The scope after a statement is the same for its tree and for its phrases.
use Rattle.std.proofs.Common.{◌≡◌, List, map, Option, option_map}
use Rattle.c_tree.specs.declared.statement.Statement.{Statement}
use Rattle.c_tree.specs.declared.raw.program.RawProgram.{RawProgram}
use Rattle.c_tree.specs.declared.raw.statement.RawStatement.{RawStatement}
use Rattle.c_tree.specs.declared.raw.statement.RawStatement.TheOpen.{RawArm-F}
use Rattle.c_language.specs.Scopes.{Scope, Scoped, after_all, after_block, after_part}
use Rattle.c_language.specs.Phrases.{scoped}
use Rattle.c_language.specs.ProgramOf.{ArmTree, tree_step, arm_tree_step, treed}
use Rattle.c_language.proofs.ScopesAfter.{statement_after, statements_after, block_scope_after, part_scope_after}

module _ (raw : RawProgram) where
  abbrev gives_arm : RawArm-F (Scoped (Option Statement)) (Scoped ArmTree) → Scope → ArmTree
  gives_arm a = (arm_tree_step raw a).gives

  pub after_same : (x : RawStatement) (scope : Scope) → (treed raw x).after scope ≡ (scoped raw x).after scope
  after_same = statement_after raw (Option Statement) ArmTree (tree_step raw) gives_arm

  pub list_after : (xs : List RawStatement) (scope : Scope) → after_all (map (treed raw) xs) scope ≡ after_all (map (scoped raw) xs) scope
  list_after = statements_after raw (Option Statement) ArmTree (tree_step raw) gives_arm

  pub block_after_same : (xs : List RawStatement) (scope : Scope) → after_block (map (treed raw) xs) scope ≡ after_block (map (scoped raw) xs) scope
  block_after_same = block_scope_after raw (Option Statement) ArmTree (tree_step raw) gives_arm

  pub part_after : (x : Option RawStatement) (scope : Scope) → after_part (option_map (treed raw) x) scope ≡ after_part (option_map (scoped raw) x) scope
  part_after = part_scope_after raw (Option Statement) ArmTree (tree_step raw) gives_arm
