use Rattle.std.proofs.Common.{sym}
use Rattle.c_types_checks.specs.Stands.{stand_of}
use Rattle.c_types_base.specs.Stretches.{of_declaration}
use Rattle.c_types_rules.specs.Walks.{Walks}
use Rattle.c_types_rules.proofs.DeclaredSteps.{declaration_stops, declared_typed, declaration_walks}
use Rattle.c_types_rules.proofs.WalkSteps.{passes_on}
use Rattle.c_types_rules.proofs.steps.declaration.Goals as goal

pub returns-in_err-on_line : goal.returns-in_err-on_line
returns-in_err-on_line c =
    passes_on (Walks (of_declaration c.args.line (stand_of c.args.stand) c.args.var.now c.args.init.now) c.args.tables.now c.args.tables.now) c.in_err-on_line.field-0.0 c.from_residual.result c.from_residual.ensures.1
    (declaration_stops c.args.tables.now c.requires c.args.line (stand_of c.args.stand) c.args.var.now c.args.init.now c.check_declared.result c.check_declared.ensures c.args.tables.now c.in_err-on_line.field-0.0 c.in_err-on_line.ensures)

pub declare-requires-clause-typed : goal.declare-requires-clause-typed
declare-requires-clause-typed c =
    declared_typed c.args.tables.now c.requires c.args.line (stand_of c.args.stand) c.args.var.now c.args.init.now c.check_declared.result c.check_declared.ensures (sym c.in_ok-on_line.ensures)
    c.item_count.result c.item_count.ensures

pub returns : goal.returns
returns c =
    declaration_walks c.args.tables.now c.requires c.args.line (stand_of c.args.stand) c.args.var.now c.args.init.now c.check_declared.result c.check_declared.ensures (sym c.in_ok-on_line.ensures)
    c.declare.new.tables c.bytes.result.now c.item_count.result c.bytes.ensures c.item_count.ensures c.in_ok-declare.ensures c.begin.result c.begin.ensures
