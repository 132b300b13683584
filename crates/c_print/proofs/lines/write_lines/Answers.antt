use Rattle.std.proofs.Common.{ap, arith, map, refl, sym}
use Rattle.c_print.specs.Lines.{item_placed, heights}
use Rattle.c_print.proofs.NotedLines.{noted_nothing, turn_fits, turn_noted, turn_next}
use Rattle.c_print.proofs.lines.write_lines.Goals as goal

pub loop-child-init : goal.loop-child-init
loop-child-init c = record { lines = sym (noted_nothing c.args.first c.args.lines.now); next = refl }

pub item-next-requires : goal.item-next-requires
item-next-requires c =
    let all = c.as_slice-child-items.result.now in
    let e = ap (λ y. heights (map (item_placed c.args.program.now) y)) c.as_slice-child-items.ensures in
    record {
      fits =
          turn_fits (item_placed c.args.program.now) all c.loop-child.child-index c.child-item.result 1 c.loop-child.next 4294967296
          c.loop-child-test.true c.child-item.is c.loop-child.invariant.next (omega (arith, e, c.requires.fits));
    }

pub loop-child-preserved : goal.loop-child-preserved
loop-child-preserved c =
    let all = c.as_slice-child-items.result.now in
    let placed = item_placed c.args.program.now in
    record {
      lines =
          turn_noted placed all c.loop-child.child-index c.child-item.result c.args.first 1 c.loop-child.next c.args.lines.now c.loop-child.lines c.item-next.new.lines
          c.loop-child-test.true c.child-item.is c.loop-child.invariant.next c.loop-child.invariant.lines c.item-next.ensures.lines;
      next =
          turn_next placed all c.loop-child.child-index c.child-item.result 1 c.loop-child.next c.item-next.result
          c.loop-child-test.true c.child-item.is c.loop-child.invariant.next c.item-next.ensures.next;
    }
