use Rattle.std.proofs.Common.{arith}
use Rattle.summary_edges.proofs.RenewLaws.{renew_begins, renew_goes, renew_ends}
use Rattle.summary_edges.proofs.exit_rows.ExitRows.renew.Goals as goal

pub loop-vertex-init : goal.loop-vertex-init
loop-vertex-init c = renew_begins c.args.g.now c.args.news.now c.args.known.now c.args.part c.args.self.now c.requires.lacks

pub spread-requires-clause-table : goal.spread-requires-clause-table
spread-requires-clause-table c = c.loop-vertex.invariant.shape.table

pub spread-requires-clause-room : goal.spread-requires-clause-room
spread-requires-clause-room c = c.loop-vertex.invariant.room.vertices

pub loop-vertex-preserved : goal.loop-vertex-preserved
loop-vertex-preserved c =
    let v = c.loop-vertex.vertex in
    renew_goes c.args.g.now c.args.news.now c.args.known.now c.args.part c.args.self.now c.loop-vertex.self c.spread.new.self v c.spread.result
    (omega arith, c.loop-vertex-test.true) c.loop-vertex.invariant c.spread.ensures.spread c.spread.ensures.above

pub returns-clause-filling : goal.returns-clause-filling
returns-clause-filling c =
    let ended = c.loop-vertex-test.false in
    renew_ends c.args.g.now c.args.news.now c.args.known.now c.args.part c.args.self.now c.loop-vertex.self c.loop-vertex.vertex (omega (arith, ended)) c.loop-vertex.invariant

pub returns-clause-shape : goal.returns-clause-shape
returns-clause-shape c = c.loop-vertex.invariant.shape
