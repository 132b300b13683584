use Rattle.std.proofs.Common.{◌+◌, arith, sym}
use Rattle.c_print.specs.Lines.{placed, arm_placed}
use Rattle.c_print.proofs.NotedLines.{noted_nothing, turn_fits, turn_noted, turn_next, turn_within}
use Rattle.c_print.proofs.PlacedLemmas.{noted_If, noted_For, noted_own, noted_none}
use Rattle.c_print.proofs.lines.+lines.Goals as goal

pub arms-loop-child-init : goal.arms-loop-child-init
arms-loop-child-init t c = record { lines = sym (noted_nothing c.args.first c.args.lines.now); next = omega arith }

pub arms-arm-next-requires : goal.arms-arm-next-requires
arms-arm-next-requires t c =
    let w = turn_within arm_placed c.args.all.now c.loop-child.child-index c.child-item.result c.loop-child-test.true c.child-item.is in (
      omega (arith, w),
      turn_fits arm_placed c.args.all.now c.loop-child.child-index c.child-item.result c.args.line c.loop-child.next 4294967296 c.loop-child-test.true c.child-item.is c.loop-child.invariant.next c.requires.fits,
    )

pub arms-loop-child-preserved : goal.arms-loop-child-preserved
arms-loop-child-preserved t c = record {
  lines =
      turn_noted arm_placed c.args.all.now c.loop-child.child-index c.child-item.result c.args.first c.args.line c.loop-child.next c.args.lines.now c.loop-child.lines c.arm-next.new.lines
      c.loop-child-test.true c.child-item.is c.loop-child.invariant.next c.loop-child.invariant.lines c.arm-next.ensures.lines;
  next =
      turn_next arm_placed c.args.all.now c.loop-child.child-index c.child-item.result c.args.line c.loop-child.next c.arm-next.result
      c.loop-child-test.true c.child-item.is c.loop-child.invariant.next c.arm-next.ensures.next;
}

pub else_part-returns-then-is_empty-clause-lines : goal.else_part-returns-then-is_empty-clause-lines
else_part-returns-then-is_empty-clause-lines t c = noted_none c.args.all.now c.args.first (c.args.line + 1) c.args.lines.now c.if-is_empty.ensures

pub inside-returns-in-If-clause-lines : goal.inside-returns-in-If-clause-lines
inside-returns-in-If-clause-lines t c =
    noted_If c.in-If.id c.in-If.line c.in-If.test c.in-If.then c.in-If.other c.args.statement.now c.as_slice.result.now c.as_slice-in-If.result.now c.args.first c.args.line c.statements-next.result
    c.args.lines.now c.statements-next.new.lines c.else_part.new.lines
    c.in-If.is c.as_slice.ensures c.as_slice-in-If.ensures c.statements-next.ensures.lines c.statements-next.ensures.next c.else_part.ensures.lines

pub inside-returns-in-For-clause-lines : goal.inside-returns-in-For-clause-lines
inside-returns-in-For-clause-lines t c =
    noted_For c.in-For.id c.in-For.line c.in-For.init c.in-For.test c.in-For.step c.in-For.body c.args.statement.now c.as_slice-in-For.result.now c.args.first c.args.line
    c.args.lines.now c.part.new.lines c.part-in-For.new.lines c.statements.new.lines
    c.in-For.is c.as_slice-in-For.ensures c.part.ensures c.part-in-For.ensures c.statements.ensures.lines

pub statement-returns-clause-lines : goal.statement-returns-clause-lines
statement-returns-clause-lines t c =
    noted_own c.args.statement.now c.args.first c.args.line c.args.lines.now c.own.new.lines c.inside.new.lines c.own.ensures c.inside.ensures.lines

pub statements-loop-child-init : goal.statements-loop-child-init
statements-loop-child-init t c = record { lines = sym (noted_nothing c.args.first c.args.lines.now); next = omega arith }

pub statements-statement-next-requires : goal.statements-statement-next-requires
statements-statement-next-requires t c =
    let w = turn_within placed c.args.all.now c.loop-child.child-index c.child-item.result c.loop-child-test.true c.child-item.is in (
      omega (arith, w),
      turn_fits placed c.args.all.now c.loop-child.child-index c.child-item.result c.args.line c.loop-child.next 4294967296 c.loop-child-test.true c.child-item.is c.loop-child.invariant.next c.requires.fits,
    )

pub statements-loop-child-preserved : goal.statements-loop-child-preserved
statements-loop-child-preserved t c = record {
  lines =
      turn_noted placed c.args.all.now c.loop-child.child-index c.child-item.result c.args.first c.args.line c.loop-child.next c.args.lines.now c.loop-child.lines c.statement-next.new.lines
      c.loop-child-test.true c.child-item.is c.loop-child.invariant.next c.loop-child.invariant.lines c.statement-next.ensures.lines;
  next =
      turn_next placed c.args.all.now c.loop-child.child-index c.child-item.result c.args.line c.loop-child.next c.statement-next.result
      c.loop-child-test.true c.child-item.is c.loop-child.invariant.next c.statement-next.ensures.next;
}
