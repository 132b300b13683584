use Rattle.slicer_top.proofs.CriteriaLaws.{ArePassed}
use Rattle.slicer_top.proofs.criteria.lines_with_starts.Given as goal

abbrev pub invariant-loop-line : goal.invariant-loop-line
invariant-loop-line l = ArePassed l.program l.lines l.line-index l.found.items
