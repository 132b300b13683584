use Rattle.c_print_laws.proofs.SyntaxTrees as trees
use Rattle.c_print_laws.proofs.syntax_is_tree.Goals as goal

pub returns : goal.returns
returns c = trees.syntax_is_tree
