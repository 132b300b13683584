use Rattle.std.proofs.Common.{arith}
use Rattle.points_to.proofs.AgendaLemmas.{removed_none, removed_all}
use Rattle.points_to.proofs.agenda.remove.Goals as goal

pub loop-at-init : goal.loop-at-init
loop-at-init c = removed_none c.args.words.now c.args.from.now

pub returns-clause-exact : goal.returns-clause-exact
returns-clause-exact c = removed_all c.args.words.now c.args.from.now c.loop-at.at c.loop-at.from (omega arith) c.loop-at.invariant

pub returns-clause-long : goal.returns-clause-long
returns-clause-long c = c.loop-at.invariant.long
