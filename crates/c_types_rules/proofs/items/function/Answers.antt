use Rattle.std.proofs.Common.{subst, Ok, Err}
use Rattle.c_language.specs.Phrases as phrases
use Rattle.c_types_base.specs.Stretches.{of_parameters, of_statements, of_function}
use Rattle.c_types_rules.specs.Walks.{Walks}
use Rattle.c_types_rules.proofs.ItemSteps.{function_stops, function_walks}
use Rattle.c_types_rules.proofs.WalkSteps.{two, first_stops, passes_on}
use Rattle.c_types_rules.proofs.items.function.Goals as goal

pub returns-in_err-parameters : goal.returns-in_err-parameters
returns-in_err-parameters c =
    let head = c.args.head.now in
    let body = c.args.body.now in
    passes_on (Walks (of_function head body) c.args.tables.now c.parameters.new.tables) c.in_err-parameters.field-0.0 c.from_residual-in_err-parameters.result c.from_residual-in_err-parameters.ensures.1
    (function_stops head body c.args.tables.now c.enter.new.self c.in_ok-enter.ensures.at c.parameters.new.tables c.in_err-parameters.field-0.0
    (first_stops (of_parameters head.params) (of_statements phrases.InBlock body) c.enter.new.self c.parameters.new.tables c.in_err-parameters.field-0.0
    (subst (λ ps. Walks (of_parameters ps) c.enter.new.self c.parameters.new.tables (Err c.in_err-parameters.field-0.0)) c.as_slice.ensures c.in_err-parameters.ensures)))

pub returns-in_err-statements : goal.returns-in_err-statements
returns-in_err-statements c =
    let head = c.args.head.now in
    let body = c.args.body.now in
    passes_on (Walks (of_function head body) c.args.tables.now c.statements.new.tables) c.in_err-statements.field-0.0 c.from_residual-in_err-statements.result c.from_residual-in_err-statements.ensures.1
    (function_stops head body c.args.tables.now c.enter.new.self c.in_ok-enter.ensures.at c.statements.new.tables c.in_err-statements.field-0.0
    (two (of_parameters head.params) (of_statements phrases.InBlock body) c.enter.new.self c.parameters.new.tables c.statements.new.tables (Err c.in_err-statements.field-0.0)
    (subst (λ ps. Walks (of_parameters ps) c.enter.new.self c.parameters.new.tables (Ok tt)) c.as_slice.ensures c.in_ok-parameters.ensures) c.in_err-statements.ensures))

pub returns : goal.returns
returns c =
    let head = c.args.head.now in
    let body = c.args.body.now in
    function_walks head body c.args.tables.now c.enter.new.self c.in_ok-enter.ensures.at c.statements.new.tables c.close.new.self c.before-outside.result
    c.before-outside.ensures.names c.before-outside.ensures.outer c.before-outside.ensures.owner
    (two (of_parameters head.params) (of_statements phrases.InBlock body) c.enter.new.self c.parameters.new.tables c.statements.new.tables (Ok tt)
    (subst (λ ps. Walks (of_parameters ps) c.enter.new.self c.parameters.new.tables (Ok tt)) c.as_slice.ensures c.in_ok-parameters.ensures) c.in_ok-statements.ensures)
    c.close.ensures
