use Rattle.std.proofs.Common.{◌≡◌, ◌++◌, take, flat_map}
use Rattle.two_pass.specs.PassRules.{edge_rules}
use Rattle.two_pass.proofs.rules.along_edges.Given as goal

abbrev pub invariant-loop-edge : goal.invariant-loop-edge
invariant-loop-edge l = l.rules.items ≡ l.fn.rules.items ++ flat_map (edge_rules l.size) (take l.edge-index l.edges)
