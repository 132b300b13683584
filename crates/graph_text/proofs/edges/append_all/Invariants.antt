use Rattle.std.proofs.Common.{◌≡◌, ◌++◌, drop}
use Rattle.graph_text.specs.Lines.{edge_lines}
use Rattle.graph_text.proofs.edges.append_all.Given as goal

abbrev pub invariant-loop-edge : goal.invariant-loop-edge
invariant-loop-edge l = l.text ++ edge_lines (drop l.edge-index l.edges) ≡ l.initial.text ++ edge_lines l.edges
