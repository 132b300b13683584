use Rattle.run_text.proofs.RunLemmas.{output_told, passes_on}
use Rattle.run_text.proofs.run_output.Goals as goal

pub returns-in_err-finish-clause-fault : goal.returns-in_err-finish-clause-fault
returns-in_err-finish-clause-fault c =
    passes_on c.args.p.now c.args.input.now _ c.args.steps c.in_ok-machine.machine c.in_ok-machine.ensures c.in_err-finish.field-0.0 c.from_residual-in_err-finish.result c.from_residual-in_err-finish.ensures.1 c.in_err-finish.ensures.fault

pub returns-clause-ended : goal.returns-clause-ended
returns-clause-ended c =
    output_told c.args.p.now c.args.input.now _ c.args.steps c.in_ok-machine.machine _ c.in_ok-machine.ensures c.in_ok-finish.ensures.ended c.in_ok-finish.ensures.done
    c.output.result.now c.in_ok-from_slice.field-0 c.output.ensures.all c.in_ok-from_slice.ensures
