use Rattle.std.proofs.Common.{refl}
use Rattle.points_to.proofs.AgendaLemmas.{put_bit}
use Rattle.points_to.proofs.agenda.put.Goals as goal

pub returns-clause-put : goal.returns-clause-put
returns-clause-put c = put_bit c.args.words.now c.args.k _ c.requires.inside refl
