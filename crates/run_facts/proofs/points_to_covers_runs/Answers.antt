use Rattle.run_facts.proofs.CoveredRuns as lemmas
use Rattle.run_facts.proofs.points_to_covers_runs.Goals as goal

pub returns : goal.returns
returns c = lemmas.points_cover_runs
