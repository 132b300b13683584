use Rattle.std.proofs.Common.{◌≡◌, ◌+◌, map, take}
use Rattle.c_print.specs.Lines.{item_placed, heights, block_starts, noted}
use Rattle.c_print.proofs.lines.write_lines.Given as goal

abbrev pub invariant-loop-child : goal.invariant-loop-child
invariant-loop-child l = record {
  lines : l.lines ≡ noted l.first (block_starts (map (item_placed l.program) (take l.child-index l.child-items)) 1) l.initial.lines;
  next : l.next ≡ 1 + heights (map (item_placed l.program) (take l.child-index l.child-items));
}
