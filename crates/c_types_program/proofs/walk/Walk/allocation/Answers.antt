use Rattle.c_types_program.proofs.SimpleForms.{heap_meant, heap_target, heap_kept, heap_has, heap_passes}
use Rattle.c_types_program.proofs.walk.Walk.allocation.Goals as goal

pub target-requires-clause-meant : goal.target-requires-clause-meant
target-requires-clause-meant c = heap_meant c.args.self.now c.requires.right c.args.line c.args.target.now c.args.cast.now c.args.amount.now c.requires.fits

pub target-requires-clause-fits : goal.target-requires-clause-fits
target-requires-clause-fits c = heap_target c.args.self.now c.requires.right c.args.line c.args.target.now c.args.cast.now c.args.amount.now c.requires.fits

pub heap_tree-requires-clause-kept : goal.heap_tree-requires-clause-kept
heap_tree-requires-clause-kept c = heap_kept c.args.self.now c.requires.right c.args.line c.args.target.now c.args.cast.now c.args.amount.now c.target.new.self c.in_ok-target.ensures.comes c.requires.fits

pub returns-clause-tree : goal.returns-clause-tree
returns-clause-tree c = heap_has c.args.self.now c.requires.right c.args.line c.args.target.now c.args.cast.now c.args.amount.now c.target.new.self c.in_ok-target.ensures.comes c.in_ok-target.target c.in_ok-made.made c.in_ok-target.ensures.tree c.in_ok-made.ensures

pub returns-clause-passes : goal.returns-clause-passes
returns-clause-passes c = heap_passes c.args.self.now c.requires.right c.args.line c.args.target.now c.args.cast.now c.args.amount.now c.target.new.self c.in_ok-target.ensures.comes c.pass.new.self c.pass.ensures.at c.pass.ensures.variables
