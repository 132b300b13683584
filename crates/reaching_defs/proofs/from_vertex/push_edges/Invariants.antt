use Rattle.reaching_defs.proofs.EdgeLemmas.{ArePushed}
use Rattle.reaching_defs.proofs.from_vertex.push_edges.Given as goal

abbrev pub invariant-loop-w : goal.invariant-loop-w
invariant-loop-w l = ArePushed l.v l.base l.w-index l.targets l.fn.found.items l.found.items
