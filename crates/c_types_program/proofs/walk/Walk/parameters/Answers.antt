use Rattle.c_types_program.proofs.FunctionSteps.{parameters_turn}
use Rattle.c_types_program.proofs.walk.Walk.parameters.Goals as goal

pub loop-parameter-preserved : goal.loop-parameter-preserved
loop-parameter-preserved c =
    parameters_turn c.args.list.now c.loop-parameter.parameter-index c.loop-parameter.invariant c.parameter-item.result c.loop-parameter-test.true c.parameter-item.is c.parameter.new.self c.in_ok-parameter.ensures
