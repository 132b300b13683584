use Rattle.simulation_values.proofs.TextGlobals as lemmas
use Rattle.simulation_values.proofs.globals_are_own.Goals as goal

pub returns : goal.returns
returns c = lemmas.globals_are_own
