use Rattle.std.proofs.Common.{None, Some}
use Rattle.c_tree.proofs.SearchLemmas.{lacks_more, lacks_all, found_in_program, none_exactly}
use Rattle.c_tree.proofs.numbered.statement.Goals as goal

pub loop-function-preserved : goal.loop-function-preserved
loop-function-preserved c =
    lacks_more c.args.id c.as_slice-function-items.result.now c.loop-function.function-index c.function-item.result c.as_slice.result.now c.loop-function-test.true c.function-item.is c.as_slice.ensures c.loop-function.invariant c.in_default.ensures

pub returns-in-Some-clause-below : goal.returns-in-Some-clause-below
returns-in-Some-clause-below c =
    none_exactly c.args.p.now c.args.id (Some c.in-Some.found)
    (found_in_program c.args.id c.args.p.now c.as_slice-function-items.result.now c.loop-function.function-index c.function-item.result c.in-Some.found.now c.as_slice.result.now c.as_slice-function-items.ensures c.loop-function-test.true c.function-item.is c.as_slice.ensures c.in-Some.ensures)

pub returns-clause-below : goal.returns-clause-below
returns-clause-below c =
    none_exactly c.args.p.now c.args.id None
    (lacks_all c.args.id c.args.p.now c.as_slice-function-items.result.now c.loop-function.function-index c.as_slice-function-items.ensures c.loop-function-test.false c.loop-function.invariant)
