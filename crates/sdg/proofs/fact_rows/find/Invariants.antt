use Rattle.sdg.proofs.RowWords.{AreRowsSoFar}
use Rattle.sdg.proofs.fact_rows.find.Given as goal

abbrev pub invariant-loop-number : goal.invariant-loop-number
invariant-loop-number l = AreRowsSoFar l.vertices l.number l.outs.items l.words
