use Rattle.c_tree.specs.declared.raw.program.RawItem.TheVariants as item_of
use Rattle.c_types_base.specs.Stretches.{of_item}
use Rattle.c_types_rules.specs.Walks.{Walks}
use Rattle.c_types_rules.proofs.ItemSteps.{struct_stops, members_stop, struct_walks}
use Rattle.c_types_rules.proofs.WalkSteps.{passes_on}
use Rattle.c_types_rules.proofs.items.define_struct.Goals as goal

pub returns-in_err-on_line : goal.returns-in_err-on_line
returns-in_err-on_line c =
    passes_on (Walks (of_item (item_of.Struct c.args.line c.args.tag.now c.args.list.now)) c.args.tables.now c.args.tables.now) c.in_err-on_line.field-0.0 c.from_residual.result c.from_residual.ensures.1
    (struct_stops c.args.tables.now c.requires.right c.args.line c.args.tag.now c.args.list.now c.check_struct.result c.check_struct.ensures c.args.tables.now c.in_err-on_line.field-0.0 c.in_err-on_line.ensures)

pub returns-in_err-listed : goal.returns-in_err-listed
returns-in_err-listed c =
    passes_on (Walks (of_item (item_of.Struct c.args.line c.args.tag.now c.args.list.now)) c.args.tables.now c.args.tables.now) c.in_err-listed.field-0.0 c.from_residual-in_err-listed.result c.from_residual-in_err-listed.ensures.1
    (members_stop c.args.tables.now c.requires.right c.args.line c.args.tag.now c.args.list.now c.check_struct.result c.check_struct.ensures c.in_ok-on_line.ensures c.args.tables.now
    c.in_err-listed.field-0.0 c.in_err-listed.ensures.answers)

pub returns : goal.returns
returns c =
    struct_walks c.args.tables.now c.requires.right c.args.line c.args.tag.now c.args.list.now c.check_struct.result c.check_struct.ensures c.in_ok-on_line.ensures c.complete.new.self
    c.in_ok-listed.ensures.answers c.in_ok-complete.ensures
