use Rattle.c_memory.proofs.SceneLaws.{decided}
use Rattle.c_memory.proofs.laws.frame_and_memory_decide.Goals as goal

pub returns : goal.returns
returns c = decided
