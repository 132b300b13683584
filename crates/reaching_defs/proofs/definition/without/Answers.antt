use Rattle.reaching_defs.proofs.HeldLemmas.{bit_without}
use Rattle.reaching_defs.proofs.definition.without.Goals as goal

pub returns : goal.returns
returns c = bit_without c.args.word c.args.other
