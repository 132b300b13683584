use Rattle.bit_rows.proofs.VectorLemmas.{stored_below, stored_at, stored_above, stored_decides}
use Rattle.bit_rows.proofs.kernel.join_vector.Goals as goal

pub returns-clause-before : goal.returns-clause-before
returns-clause-before c = stored_below c.args.to.now c.args.from.now c.args.at c.requires.to_in c.requires.from_in

pub returns-clause-joined : goal.returns-clause-joined
returns-clause-joined c = stored_at c.args.to.now c.args.from.now c.args.at c.requires.to_in c.requires.from_in

pub returns-clause-after : goal.returns-clause-after
returns-clause-after c = stored_above c.args.to.now c.args.from.now c.args.at c.requires.to_in c.requires.from_in

pub returns-clause-changed : goal.returns-clause-changed
returns-clause-changed c = stored_decides c.args.to.now c.args.from.now c.args.at c.requires.to_in c.requires.from_in
