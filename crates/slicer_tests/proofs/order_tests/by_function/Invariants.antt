use Rattle.std.proofs.Common.{◌≤◌}
use Rattle.std.specs.List.{AllAdjacentBelow}
use Rattle.dep_model.specs.declared.vertex.Vertex.{Vertex}
use Rattle.slicer_tests.proofs.order_tests.by_function.Given as goal

abbrev pub invariant-loop-i : goal.invariant-loop-i
invariant-loop-i g l = AllAdjacentBelow (λ (x y : Vertex). x.function ≤ y.function) l.vertices l.i
