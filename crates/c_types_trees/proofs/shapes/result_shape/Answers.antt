use Rattle.c_types_trees.proofs.MadeLemmas.{own_result}
use Rattle.c_types_trees.proofs.shapes.result_shape.Goals as goal

pub plain_shape-requires-clause-there : goal.plain_shape-requires-clause-there
plain_shape-requires-clause-there c =
    own_result c.args.defined.now.raw.now c.args.head.now c.in-Some.shape c.in-Some.is c.requires.plain c.requires.kept
