use Rattle.c_types_program.proofs.SimpleForms.{bump_kept, bump_has, bump_passes}
use Rattle.c_types_program.proofs.walk.Walk.bump.Goals as goal

pub bump_tree-requires-clause-kept : goal.bump_tree-requires-clause-kept
bump_tree-requires-clause-kept c = bump_kept c.args.self.now c.requires.right c.args.line c.args.left.now c.args.up c.args.before c.requires.fits

pub returns-clause-tree : goal.returns-clause-tree
returns-clause-tree c = bump_has c.args.self.now c.requires.right c.args.line c.args.left.now c.args.up c.args.before c.in_ok-made.made c.in_ok-made.ensures

pub returns-clause-passes : goal.returns-clause-passes
returns-clause-passes c = bump_passes c.args.self.now c.requires.right c.args.line c.pass.new.self c.args.left.now c.args.up c.args.before c.pass.ensures.at c.pass.ensures.variables
