use Rattle.run_facts.proofs.TypedPairs as lemmas
use Rattle.run_facts.proofs.targets_have_the_type.Goals as goal

pub returns : goal.returns
returns c = lemmas.targets_have_the_type
