use Rattle.points_to.proofs.AgendaLemmas.{bit_without}
use Rattle.points_to.proofs.agenda.without.Goals as goal

pub returns : goal.returns
returns c = bit_without c.args.word c.args.other
