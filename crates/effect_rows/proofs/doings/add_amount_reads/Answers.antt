-- The size of a type reads nothing.
use Rattle.std.proofs.Common.{ap}
use Rattle.dep_model.specs.DoingEffects.{amount_reads}
use Rattle.effect_rows.specs.Pointed.{points_in}
use Rattle.effect_rows.proofs.ReadLemmas.{none_read}
use Rattle.effect_rows.proofs.doings.add_amount_reads.Goals as goal

pub returns-in-Size-clause-gained : goal.returns-in-Size-clause-gained
returns-in-Size-clause-gained c =
    let p = c.args.g.now.program in
    let to = points_in c.args.g.now in
    none_read p c.args.row c.args.rows.now (amount_reads p to c.args.amount.now) (ap (amount_reads p to) c.in-Size.is)
