use Rattle.vertex_layout.proofs.WordLemmas.{AreCounted}
use Rattle.vertex_layout.proofs.fact_words.count_formal_ins.Given as goal

abbrev pub invariant-loop-vertex : goal.invariant-loop-vertex
invariant-loop-vertex l = AreCounted l.vertices l.vertex-index l.counts.items
