use Rattle.c_types_program.proofs.SimpleForms.{assign_kept, assign_has, assign_passes}
use Rattle.c_types_program.proofs.walk.Walk.assignment.Goals as goal

pub assign_tree-requires-clause-kept : goal.assign_tree-requires-clause-kept
assign_tree-requires-clause-kept c = assign_kept c.args.self.now c.requires.right c.args.line c.args.left.now c.args.op c.args.right.now c.requires.fits

pub returns-clause-tree : goal.returns-clause-tree
returns-clause-tree c = assign_has c.args.self.now c.requires.right c.args.line c.args.left.now c.args.op c.args.right.now c.in_ok-made.made c.in_ok-made.ensures

pub returns-clause-passes : goal.returns-clause-passes
returns-clause-passes c = assign_passes c.args.self.now c.requires.right c.args.line c.pass.new.self c.args.left.now c.args.op c.args.right.now c.pass.ensures.at c.pass.ensures.variables
