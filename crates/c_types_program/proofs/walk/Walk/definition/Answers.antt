use Rattle.std.proofs.Common.{refl, ap, ◌∙◌}
use Rattle.c_language.specs.ProgramOf.{parameter_ids}
use Rattle.c_types_program.proofs.FunctionSteps.{definition_head, definition_inside, definition_has, definition_passes, function_record}
use Rattle.c_types_program.proofs.walk.Walk.definition.Goals as goal

pub result_shape-requires-clause-kept : goal.result_shape-requires-clause-kept
result_shape-requires-clause-kept c = definition_head c.args.self.now c.requires.right c.args.line c.args.head.now c.args.body.now c.requires.fits

pub function-requires-clause-fits : goal.function-requires-clause-fits
function-requires-clause-fits c =
    definition_inside c.args.self.now c.requires.right c.args.line c.args.head.now c.args.body.now c.requires.fits (record c.args.self.now { tables = c.declare_function.new.self })
    c.bytes.result.now c.bytes.ensures c.in_ok-declare_function.ensures

pub returns-clause-tree : goal.returns-clause-tree
returns-clause-tree c =
    let head = c.args.head.now in
    let ids = c.in_ok-params.ensures ∙ ap (λ ps. parameter_ids ps c.args.self.now.tables.variables) c.as_slice.ensures in
    definition_has c.args.self.now c.requires.right c.args.line head c.args.body.now c.requires.fits (record c.args.self.now { tables = c.declare_function.new.self })
    c.bytes.result.now c.bytes.ensures c.in_ok-declare_function.ensures _ c.in_ok-result.result c.in_ok-body.body c.in_ok-result.ensures c.in_ok-body.ensures.tree
    (function_record head c.args.line c.in_ok-name.name c.in_ok-result.result c.in_ok-params.params _ c.in_ok-body.body c.in_ok-name.ensures ids)

pub returns-clause-passes : goal.returns-clause-passes
returns-clause-passes c =
    definition_passes c.args.self.now c.requires.right c.args.line c.args.head.now c.args.body.now c.requires.fits (record c.args.self.now { tables = c.declare_function.new.self })
    c.bytes.result.now c.bytes.ensures c.in_ok-declare_function.ensures c.function.new.self refl c.in_ok-body.ensures.passes
