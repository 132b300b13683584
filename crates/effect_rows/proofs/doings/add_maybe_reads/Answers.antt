-- Where there is no expression nothing is read.
use Rattle.std.proofs.Common.{ap}
use Rattle.dep_model.specs.DoingEffects.{maybe_reads}
use Rattle.effect_rows.specs.Pointed.{points_in}
use Rattle.effect_rows.proofs.ReadLemmas.{none_read}
use Rattle.effect_rows.proofs.doings.add_maybe_reads.Goals as goal

pub returns-in-None-clause-gained : goal.returns-in-None-clause-gained
returns-in-None-clause-gained c =
    let p = c.args.g.now.program in
    let to = points_in c.args.g.now in
    none_read p c.args.row c.args.rows.now (maybe_reads p to c.args.value.now) (ap (maybe_reads p to) c.in-None.is)
