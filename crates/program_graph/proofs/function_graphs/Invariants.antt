use Rattle.program_graph.proofs.Parts.{FirstGraphs}
use Rattle.program_graph.proofs.function_graphs.Given as goal

abbrev pub invariant-loop-f : goal.invariant-loop-f
invariant-loop-f l = FirstGraphs l.p l.s l.f l.parts.items
