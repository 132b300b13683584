use Rattle.c_types_checks.specs.Stands.{stand_of}
use Rattle.c_types_rules.proofs.DeclaredSteps.{begins_one, begins_items}
use Rattle.c_types_rules.proofs.steps.begin.Goals as goal

pub returns-in-One : goal.returns-in-One
returns-in-One c =
    begins_one c.args.tables.now c.requires c.args.line (stand_of c.args.stand) c.args.var.now c.check_begun.result c.on_line.result c.on_line.ensures
    c.args.init.now c.in-One.field-0 c.in-One.is c.check_begun.ensures

pub returns-in-Items : goal.returns-in-Items
returns-in-Items c =
    begins_items c.args.tables.now c.requires c.args.line (stand_of c.args.stand) c.args.var.now c.check_begun-in-Items.result c.on_line-in-Items.result c.on_line-in-Items.ensures
    c.args.init.now c.in-Items.field-0 c.in-Items.is c.check_begun-in-Items.ensures
