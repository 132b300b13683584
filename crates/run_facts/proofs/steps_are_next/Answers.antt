use Rattle.run_facts.proofs.NextSteps as lemmas
use Rattle.run_facts.proofs.steps_are_next.Goals as goal

pub returns : goal.returns
returns c = λ p x. lemmas.steps_are_next p x
