use Rattle.std.proofs.Common.{◌≡◌, ◌+◌, ◌*◌, map, take}
use Rattle.c_print.specs.Lines.{placed, arm_placed, heights, else_height, block_starts, noted}
use Rattle.c_print.proofs.lines.+lines.Given as goal

abbrev pub invariant-arms-loop-child : goal.invariant-arms-loop-child
invariant-arms-loop-child l = record {
  lines : l.lines ≡ noted l.first (block_starts (map arm_placed (take l.child-index l.all)) l.line) l.initial.lines;
  next : l.next ≡ l.line + heights (map arm_placed (take l.child-index l.all));
}

abbrev pub invariant-statements-loop-child : goal.invariant-statements-loop-child
invariant-statements-loop-child l = record {
  lines : l.lines ≡ noted l.first (block_starts (map placed (take l.child-index l.all)) l.line) l.initial.lines;
  next : l.next ≡ l.line + heights (map placed (take l.child-index l.all));
}

abbrev pub decreases-statements : goal.decreases-statements
decreases-statements l = 4 * heights (map placed l.all.now) + 2

abbrev pub decreases-else_part : goal.decreases-else_part
decreases-else_part l = 4 * else_height (map placed l.all.now) + 3

abbrev pub decreases-arm : goal.decreases-arm
decreases-arm l = 4 * (arm_placed l.arm.now).height + 1

abbrev pub decreases-arms : goal.decreases-arms
decreases-arms l = 4 * heights (map arm_placed l.all.now) + 2

abbrev pub decreases-inside : goal.decreases-inside
decreases-inside l = 4 * (placed l.statement.now).height

abbrev pub decreases-statement : goal.decreases-statement
decreases-statement l = 4 * (placed l.statement.now).height + 1
