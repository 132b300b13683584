use Rattle.std.proofs.Common.{arith}
use Rattle.c_memory.proofs.BlockLemmas.{left_at, left_past}
use Rattle.c_memory.proofs.memory.Memory.leave.Goals as goal

pub returns-then-at-len : goal.returns-then-at-len
returns-then-at-len c =
    let size = c.len.ensures in
    let test = c.if-at-len.true in
    rw (← c.self.view_is)
    (left_at c.self.inside.layouts c.self.inside.blocks.items c.args.block c.index_mut.result.now c.end.new.self (omega (arith, size, test)) c.index_mut.ensures.value c.end.ensures)

pub returns-else-at-len : goal.returns-else-at-len
returns-else-at-len c =
    let size = c.len.ensures in
    let test = c.if-at-len.false in
    rw (← c.self.view_is) (left_past c.self.inside.layouts c.self.inside.blocks.items c.args.block (omega (arith, size, test)))
