use Rattle.std.proofs.Common.{sym}
use Rattle.c_types_base.specs.Stretches.{a_statement}
use Rattle.c_types_rules.specs.Walks.{Walks}
use Rattle.c_types_rules.proofs.Checked.{walks_numbered, number_stops}
use Rattle.c_types_rules.proofs.WalkSteps.{passes_on}
use Rattle.c_types_rules.proofs.steps.number_on.Goals as goal

pub returns-in_err-on_line : goal.returns-in_err-on_line
returns-in_err-on_line c = λ part h.
    passes_on (Walks (a_statement c.args.line part) c.args.tables.now c.args.tables.now) c.in_err-on_line.field-0.0 c.from_residual.result c.from_residual.ensures.1
    (number_stops c.args.tables.now c.requires c.args.line part c.args.verdict h c.args.tables.now c.in_err-on_line.field-0.0 (sym c.in_err-on_line.ensures))

pub returns : goal.returns
returns c = λ part h. walks_numbered c.args.tables.now c.requires c.args.line part c.args.verdict h c.number.new.self (sym c.in_ok-on_line.ensures) c.in_ok-number.ensures.at
