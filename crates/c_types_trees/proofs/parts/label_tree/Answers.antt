use Rattle.std.proofs.Common.{subst}
use Rattle.c_types_trees.specs.KeptPhrases.{IsKeptLabel}
use Rattle.c_types_trees.proofs.PartLemmas.{case_constant}
use Rattle.c_types_trees.proofs.parts.label_tree.Goals as goal

pub case_tree-requires-clause-constant : goal.case_tree-requires-clause-constant
case_tree-requires-clause-constant c =
    case_constant c.args.tables.now.raw.now c.in-Case.value (subst (IsKeptLabel c.args.tables.now.raw.now) c.in-Case.is c.requires.kept)
