use Rattle.run_facts.proofs.DoneSteps.{steps_do_their_effects}
use Rattle.run_facts.proofs.steps_do_their_effects.Goals as goal

pub returns : goal.returns
returns c = steps_do_their_effects
