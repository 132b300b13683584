use Rattle.c_types_program.proofs.SimpleForms.{return_kept, return_has, return_passes}
use Rattle.c_types_program.proofs.walk.Walk.returned.Goals as goal

pub return_tree-requires-clause-kept : goal.return_tree-requires-clause-kept
return_tree-requires-clause-kept c = return_kept c.args.self.now c.requires.right c.args.line c.args.value.now c.requires.fits

pub returns-clause-tree : goal.returns-clause-tree
returns-clause-tree c = return_has c.args.self.now c.requires.right c.args.line c.args.value.now c.in_ok-made.made c.in_ok-made.ensures

pub returns-clause-passes : goal.returns-clause-passes
returns-clause-passes c = return_passes c.args.self.now c.requires.right c.args.line c.pass.new.self c.args.value.now c.pass.ensures.at c.pass.ensures.variables
