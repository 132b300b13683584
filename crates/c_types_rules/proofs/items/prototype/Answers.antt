use Rattle.c_tree.specs.declared.raw.program.RawItem.TheVariants as item_of
use Rattle.c_types_base.specs.Stretches.{of_item}
use Rattle.c_types_rules.specs.Walks.{Walks}
use Rattle.c_types_rules.proofs.ItemSteps.{prototype_stops, signature_stops, prototype_walks}
use Rattle.c_types_rules.proofs.WalkSteps.{passes_on}
use Rattle.c_types_rules.proofs.items.prototype.Goals as goal

pub returns-in_err-on_line : goal.returns-in_err-on_line
returns-in_err-on_line c =
    passes_on (Walks (of_item (item_of.Prototype c.args.line c.args.head.now)) c.args.tables.now c.args.tables.now) c.in_err-on_line.field-0.0 c.from_residual.result c.from_residual.ensures.1
    (prototype_stops c.args.tables.now c.requires.right c.args.line c.args.head.now c.check_prototype.result c.check_prototype.ensures c.args.tables.now c.in_err-on_line.field-0.0 c.in_err-on_line.ensures)

pub returns-in_err-taken : goal.returns-in_err-taken
returns-in_err-taken c =
    passes_on (Walks (of_item (item_of.Prototype c.args.line c.args.head.now)) c.args.tables.now c.args.tables.now) c.in_err-taken.field-0.0 c.from_residual-in_err-taken.result c.from_residual-in_err-taken.ensures.1
    (signature_stops c.args.tables.now c.requires.right c.args.line c.args.head.now c.check_prototype.result c.check_prototype.ensures c.in_ok-on_line.ensures c.args.tables.now
    c.in_err-taken.field-0.0 c.as_slice.result.now c.as_slice.ensures c.in_err-taken.ensures)

pub returns : goal.returns
returns c =
    prototype_walks c.args.tables.now c.requires.right c.args.line c.args.head.now c.check_prototype.result c.check_prototype.ensures c.in_ok-on_line.ensures c.declare_function.new.self
    c.as_slice.result.now c.bytes.result.now c.as_slice.ensures c.bytes.ensures c.in_ok-taken.ensures c.in_ok-declare_function.ensures
