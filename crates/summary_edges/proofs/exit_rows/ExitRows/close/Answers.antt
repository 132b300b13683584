use Rattle.std.proofs.Common.{arith}
use Rattle.summary_edges.proofs.SpreadLaws.{one_shape, shapes_follow, count_bounded}
use Rattle.summary_edges.proofs.exit_rows.ExitRows.close.Goals as goal

pub loop-part-init : goal.loop-part-init
loop-part-init c = (c.requires.filling, one_shape c.args.self.now c.requires.filling.room.table)

pub sweep-requires-clause-filling : goal.sweep-requires-clause-filling
sweep-requires-clause-filling c = c.loop-part.invariant.0

pub loop-part-smaller : goal.loop-part-smaller
loop-part-smaller c =
    let e = c.sweep.ensures in
    let start = c.args.self.now in
    let bound = count_bounded start c.sweep.new.self (shapes_follow start c.loop-part.self c.sweep.new.self c.loop-part.invariant.1 e.shape) in
    let more = e.grown.more c.loop-part-test.true in
    omega (arith, bound, more)

pub loop-part-preserved : goal.loop-part-preserved
loop-part-preserved c = (c.sweep.ensures.filling, shapes_follow c.args.self.now c.loop-part.self c.sweep.new.self c.loop-part.invariant.1 c.sweep.ensures.shape)

pub returns-clause-filled : goal.returns-clause-filled
returns-clause-filled c = record { filling = c.sweep.ensures.filling; down = c.sweep.ensures.done c.loop-part-test.false }

pub returns-clause-shape : goal.returns-clause-shape
returns-clause-shape c = shapes_follow c.args.self.now c.loop-part.self c.sweep.new.self c.loop-part.invariant.1 c.sweep.ensures.shape
