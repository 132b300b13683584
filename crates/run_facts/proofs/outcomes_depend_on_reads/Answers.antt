use Rattle.run_facts.proofs.SameActs.{outcomes_depend_on_reads}
use Rattle.run_facts.proofs.outcomes_depend_on_reads.Goals as goal

pub returns : goal.returns
returns c = outcomes_depend_on_reads
