use Rattle.std.proofs.Common.{arith}
use Rattle.mod_ref.proofs.ColumnLemmas.{read_ends}
use Rattle.mod_ref.proofs.columns.read.Goals as goal

pub returns : goal.returns
returns c =
    let done = c.loop-f-test.false in
    let end = c.loop-f.invariant.1 in
    read_ends c.args.own.now c.args.location c.loop-f.f c.loop-f.marks c.loop-f.invariant.0 (omega (arith, done, end))
