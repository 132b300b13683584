use Rattle.c_meaning.proofs.Origins as origins
use Rattle.c_meaning.proofs.laws.blocks_have_origins.Goals as goal

pub returns : goal.returns
returns c = origins.blocks_have_origins
