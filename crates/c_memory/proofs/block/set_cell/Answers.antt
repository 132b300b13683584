use Rattle.std.proofs.Common.{arith, sym, ◌∙◌, Some, None}
use Rattle.c_memory.proofs.CellLemmas.{changed_past, set_is_changed, is_there}
use Rattle.c_memory.proofs.block.set_cell.Goals as goal

pub returns-then-at-len-clause-written : goal.returns-then-at-len-clause-written
returns-then-at-len-clause-written c =
    let size = c.len.ensures in
    let test = c.if-at-len.true in
    sym (changed_past _ c.args.number c.args.cells.now (omega (arith, size, test)))

pub returns-clause-answer : goal.returns-clause-answer
returns-clause-answer c =
    let size = c.len.ensures in
    let test = c.if-at-len.false in
    is_there c.args.cells.now c.args.number None (omega (arith, size, test))

pub returns-clause-written : goal.returns-clause-written
returns-clause-written c =
    let size = c.len.ensures in
    let test = c.if-at-len.false in
    c.set.ensures ∙ set_is_changed (Some c.args.value) c.args.number c.args.cells.now (omega (arith, size, test))
