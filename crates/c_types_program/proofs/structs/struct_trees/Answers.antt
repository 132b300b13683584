use Rattle.c_types_program.specs.Items.{MakesStructs}
use Rattle.c_types_program.proofs.StructSteps.{passes_stop, struct_kept, structs_stop, structs_end}
use Rattle.c_types_program.proofs.structs.struct_trees.Goals as goal

pub add_struct-requires-clause-kept : goal.add_struct-requires-clause-kept
add_struct-requires-clause-kept c =
    struct_kept c.args.defined.now.raw.now c.args.items.now c.loop-item.item-index c.item-item.result c.loop-item-test.true c.item-item.is c.requires.kept

pub returns-in_err-add_struct : goal.returns-in_err-add_struct
returns-in_err-add_struct c =
    passes_stop (MakesStructs c.args.defined.now.raw.now c.args.items.now) c.in_err-add_struct.field-0.0 c.from_residual.result c.from_residual.ensures.1
    (structs_stop c.args.defined.now.raw.now c.args.items.now c.loop-item.item-index c.item-item.result c.loop-item-test.true c.item-item.is
    c.loop-item.made c.add_struct.new.made c.in_err-add_struct.field-0.0 c.in_err-add_struct.ensures)

pub returns : goal.returns
returns c = structs_end c.args.defined.now.raw.now c.args.items.now c.loop-item.item-index c.loop-item.made c.loop-item-test.false c.loop-item.invariant
