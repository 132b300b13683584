use Rattle.std.proofs.Common.{◌≡◌, ◌++◌, drop}
use Rattle.flow_graph.specs.Walk.{linked}
use Rattle.flow_graph.proofs.walk.link.Given as goal

abbrev pub invariant-loop-i : goal.invariant-loop-i
invariant-loop-i l = l.out.items ++ linked (drop l.i l.vertices) l.next ≡ l.initial.out.items ++ linked l.vertices l.next
