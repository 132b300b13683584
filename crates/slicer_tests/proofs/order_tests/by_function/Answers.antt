use Rattle.std.proofs.Common.{◌≤◌, length, rules, arith}
use Rattle.std.proofs.lemmas.List.Sorted.{IsNonDecreasingBy-from_all_adjacent}
use Rattle.dep_model.specs.declared.vertex.Vertex.{Vertex}
use Rattle.slicer_tests.proofs.order_tests.by_function.Goals as goal

pub returns : goal.returns
returns g c =
    let done : length c.args.vertices.now ≤ c.loop-i.i = search rules in
    IsNonDecreasingBy-from_all_adjacent (λ (v : Vertex). v.function) c.args.vertices.now (λ k d lt. c.loop-i.invariant k d (omega (arith, lt, done)))
