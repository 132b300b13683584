use Rattle.std.proofs.Common.{arith}
use Rattle.c_tree.specs.Numbered.{start}
use Rattle.slice_engine.proofs.StartLemmas.{latest_next, latest_all}
use Rattle.slice_engine.proofs.starts.last_line.Goals as goal

pub loop-start-preserved : goal.loop-start-preserved
loop-start-preserved c =
    latest_next c.args.starts.now c.loop-start.start-index c.loop-start.last c.max-last.result (start 0 0) c.loop-start-test.true c.max-last.ensures c.loop-start.invariant

pub returns-clause-latest : goal.returns-clause-latest
returns-clause-latest c =
    let end = c.loop-start-test.false in
    latest_all c.args.starts.now c.loop-start.start-index c.loop-start.last (omega (arith, end)) c.loop-start.invariant
