use Rattle.run_facts.proofs.StepKinds as lemmas
use Rattle.run_facts.proofs.steps_have_kinds.Goals as goal

pub returns : goal.returns
returns c = λ p x y leads. lemmas.steps_have_kinds p x y leads
