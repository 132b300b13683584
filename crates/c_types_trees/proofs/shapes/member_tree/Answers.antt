use Rattle.c_types_trees.proofs.MadeLemmas.{member_given}
use Rattle.c_types_trees.proofs.shapes.member_tree.Goals as goal

pub made_shape-requires-clause-there : goal.made_shape-requires-clause-there
made_shape-requires-clause-there c = member_given c.args.defined.now.raw.now c.args.member.now c.requires.kept
