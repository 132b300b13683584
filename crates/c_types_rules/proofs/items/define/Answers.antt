use Rattle.c_tree.specs.declared.raw.program.RawItem.TheVariants as item_of
use Rattle.c_types_base.specs.Tables.{scope_of}
use Rattle.c_types_base.specs.Stretches.{of_item}
use Rattle.c_types_rules.specs.Walks.{Walks}
use Rattle.c_types_rules.proofs.ItemSteps.{define_stops, inside_stops, define_walks}
use Rattle.c_types_rules.proofs.WalkSteps.{passes_on}
use Rattle.c_types_rules.proofs.items.define.Goals as goal

pub returns-in_err-on_line : goal.returns-in_err-on_line
returns-in_err-on_line c =
    passes_on (Walks (of_item (item_of.Define c.args.line c.args.head.now c.args.body.now)) c.args.tables.now c.args.tables.now) c.in_err-on_line.field-0.0 c.from_residual.result c.from_residual.ensures.1
    (define_stops c.args.tables.now c.requires.right c.args.line c.args.head.now c.args.body.now c.check_definition.result c.check_definition.ensures c.args.tables.now c.in_err-on_line.field-0.0 c.in_err-on_line.ensures)

pub returns-in_err-function : goal.returns-in_err-function
returns-in_err-function c =
    passes_on (Walks (of_item (item_of.Define c.args.line c.args.head.now c.args.body.now)) c.args.tables.now c.function.new.tables) c.in_err-function.field-0.0 c.from_residual-in_err-function.result c.from_residual-in_err-function.ensures.1
    (inside_stops c.args.tables.now c.requires.right c.args.line c.args.head.now c.args.body.now c.check_definition.result c.check_definition.ensures c.in_ok-on_line.ensures
    c.declare_function.new.self c.bytes.result.now c.bytes.ensures c.in_ok-declare_function.ensures c.function.new.tables c.in_err-function.field-0.0 c.in_err-function.ensures)

pub returns : goal.returns
returns c =
    define_walks c.args.tables.now c.requires.right c.args.line c.args.head.now c.args.body.now c.check_definition.result c.check_definition.ensures c.in_ok-on_line.ensures
    c.declare_function.new.self c.bytes.result.now c.bytes.ensures c.in_ok-declare_function.ensures c.function.new.tables c.in_ok-function.ensures
    c.check_end.result (c.check_end.ensures c.args.tables.now.raw.now (scope_of c.args.tables.now)) c.on_line-2.result c.on_line-2.ensures
