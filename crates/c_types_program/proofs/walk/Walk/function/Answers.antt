use Rattle.std.proofs.Common.{refl, subst, sym}
use Rattle.c_types_base.specs.Stretches.{of_parameters}
use Rattle.c_types_program.specs.Items.{FitsStretch, PassesStretch}
use Rattle.c_types_program.proofs.FunctionSteps.{function_parameters, body_fits, function_passes}
use Rattle.c_types_program.proofs.walk.Walk.function.Goals as goal

pub parameters-requires-clause-fits : goal.parameters-requires-clause-fits
parameters-requires-clause-fits c =
    let u = record c.args.self.now { tables = c.enter.new.self } in
    subst (λ ps. FitsStretch (of_parameters ps) u) (sym c.as_slice.ensures)
    (function_parameters c.args.self.now c.requires.right c.args.head.now c.args.body.now u c.in_ok-enter.ensures.at c.requires.fits)

pub statements-requires-clause-fits : goal.statements-requires-clause-fits
statements-requires-clause-fits c =
    let u = record c.args.self.now { tables = c.enter.new.self } in
    let v = c.parameters.new.self in
    body_fits c.args.self.now c.requires.right c.args.head.now c.args.body.now u c.in_ok-enter.ensures.at v
    (subst (λ ps. PassesStretch (of_parameters ps) u v) c.as_slice.ensures c.in_ok-parameters.ensures) c.requires.fits

pub returns-clause-passes : goal.returns-clause-passes
returns-clause-passes c =
    let u = record c.args.self.now { tables = c.enter.new.self } in
    let v = c.parameters.new.self in
    function_passes c.args.self.now c.requires.right c.args.head.now c.args.body.now u c.in_ok-enter.ensures.at v
    (subst (λ ps. PassesStretch (of_parameters ps) u v) c.as_slice.ensures c.in_ok-parameters.ensures)
    c.statements.new.self (record c.statements.new.self { tables = c.close.new.self }) c.before-outside.result.names c.before-outside.result.outer c.before-outside.result.owner
    c.before-outside.ensures.names c.before-outside.ensures.outer c.before-outside.ensures.owner refl c.in_ok-made.ensures.passes c.close.ensures refl
