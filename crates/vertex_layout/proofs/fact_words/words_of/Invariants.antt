use Rattle.vertex_layout.proofs.WordLemmas.{AreAdded}
use Rattle.vertex_layout.proofs.fact_words.words_of.Given as goal

abbrev pub invariant-loop-vertex : goal.invariant-loop-vertex
invariant-loop-vertex l = AreAdded l.vertices l.vertex-index l.words
