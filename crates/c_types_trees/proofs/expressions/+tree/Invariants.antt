use Rattle.c_language.specs.Nesting.{nesting}
use Rattle.c_types_trees.proofs.expressions.+tree.Given as goal

abbrev pub decreases-tree : goal.decreases-tree
decreases-tree l = nesting l.expr.now
