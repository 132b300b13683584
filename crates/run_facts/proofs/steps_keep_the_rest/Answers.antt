use Rattle.run_facts.proofs.KeptStates.{steps_keep_the_rest}
use Rattle.run_facts.proofs.steps_keep_the_rest.Goals as goal

pub returns : goal.returns
returns c = steps_keep_the_rest
