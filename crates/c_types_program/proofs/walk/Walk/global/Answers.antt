use Rattle.c_types_program.proofs.ItemForms.{global_fresh, global_typed, global_shaped, global_begun, global_has, global_passes}
use Rattle.c_types_program.proofs.walk.Walk.global.Goals as goal

pub declare-requires-clause-fresh : goal.declare-requires-clause-fresh
declare-requires-clause-fresh c = global_fresh c.args.self.now c.requires.right c.args.line c.args.var.now c.args.init.now c.args.is_static c.requires.fits

pub declare-requires-clause-typed : goal.declare-requires-clause-typed
declare-requires-clause-typed c =
    global_typed c.args.self.now c.requires.right c.args.line c.args.var.now c.args.init.now c.args.is_static c.requires.fits c.item_count.result c.item_count.ensures

pub declare-requires-clause-shaped : goal.declare-requires-clause-shaped
declare-requires-clause-shaped c =
    global_shaped c.args.self.now c.requires.right c.args.line c.args.var.now c.args.init.now c.args.is_static c.requires.fits c.item_count.result c.item_count.ensures

pub init_tree-requires-clause-kept : goal.init_tree-requires-clause-kept
init_tree-requires-clause-kept c =
    global_begun c.args.self.now c.requires.right c.args.line c.args.var.now c.args.init.now c.args.is_static c.requires.fits c.item_count.result c.item_count.ensures c.declare.new.self c.in_ok-declare.ensures

pub returns-clause-tree : goal.returns-clause-tree
returns-clause-tree c =
    global_has c.args.self.now c.requires.right c.args.line c.args.var.now c.args.init.now c.args.is_static c.requires.fits c.item_count.result c.item_count.ensures c.declare.new.self c.in_ok-declare.ensures
    c.in_ok-made.made c.in_ok-made.ensures

pub returns-clause-passes : goal.returns-clause-passes
returns-clause-passes c =
    global_passes c.args.self.now c.requires.right c.args.line c.args.var.now c.args.init.now c.args.is_static c.requires.fits c.item_count.result c.item_count.ensures c.declare.new.self c.in_ok-declare.ensures
