use Rattle.c_types_program.proofs.SimpleForms.{declare_fresh, declare_typed, declare_shaped, declare_begun, declare_tree, declare_passes}
use Rattle.std.proofs.Common.{refl}
use Rattle.c_types_program.proofs.walk.Walk.declaration.Goals as goal

pub declare-requires-clause-fresh : goal.declare-requires-clause-fresh
declare-requires-clause-fresh c = declare_fresh c.args.self.now c.requires.right c.args.line c.args.var.now c.args.init.now c.requires.fits

pub declare-requires-clause-typed : goal.declare-requires-clause-typed
declare-requires-clause-typed c = declare_typed c.args.self.now c.requires.right c.args.line c.args.var.now c.args.init.now c.requires.fits c.item_count.result c.item_count.ensures

pub declare-requires-clause-shaped : goal.declare-requires-clause-shaped
declare-requires-clause-shaped c = declare_shaped c.args.self.now c.requires.right c.args.line c.args.var.now c.args.init.now c.requires.fits c.item_count.result c.item_count.ensures

pub init_tree-requires-clause-kept : goal.init_tree-requires-clause-kept
init_tree-requires-clause-kept c = declare_begun c.args.self.now c.requires.right c.args.line c.declare.new.self c.item_count.result c.args.var.now c.args.init.now c.item_count.ensures c.in_ok-declare.ensures c.requires.fits

pub returns-clause-tree : goal.returns-clause-tree
returns-clause-tree c = declare_tree c.args.self.now c.requires.right c.args.line c.declare.new.self c.item_count.result c.args.var.now c.args.init.now c.item_count.ensures c.in_ok-declare.ensures c.in_ok-id.id c.args.self.now.tables.variables c.in_ok-made.made c.in_ok-id.ensures.id refl c.in_ok-made.ensures

pub returns-clause-passes : goal.returns-clause-passes
returns-clause-passes c = declare_passes c.args.self.now c.requires.right c.args.line c.declare.new.self c.item_count.result c.args.var.now c.args.init.now c.item_count.ensures c.in_ok-declare.ensures c.begin.new.self c.in_ok-id.ensures.at c.in_ok-id.ensures.variables
