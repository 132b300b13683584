use Rattle.std.proofs.Common.{◌≡◌, ◌≤◌, ◌++◌, take, drop, length}
use Rattle.dep_model.specs.Groups.{row}
use Rattle.flow_graph.specs.Walk.{flows, arm_flows}
use Rattle.flow_graph.proofs.walk.+statement.Given as goal

abbrev pub invariant-arms-loop-i : goal.invariant-arms-loop-i
invariant-arms-loop-i l =
    l.out.items ≡ l.initial.out.items ++ arm_flows (row l.own) l.test (take l.i l.taken) (take l.i l.list) l.next

abbrev pub invariant-statements-loop-left : goal.invariant-statements-loop-left
invariant-statements-loop-left l = record {
  pairs_are : l.out.items ≡ l.initial.out.items ++ (flows (row l.own) (drop l.left l.list)).pairs l.fn.next;
  start_is : l.start ≡ (flows (row l.own) (drop l.left l.list)).start l.fn.next;
  within : l.left ≤ length l.list;
}

abbrev pub decreases-statements-loop-left : goal.decreases-statements-loop-left
decreases-statements-loop-left l = l.left
