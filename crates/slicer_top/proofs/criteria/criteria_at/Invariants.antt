use Rattle.slicer_top.proofs.CriteriaLaws.{AreFirst}
use Rattle.slicer_top.proofs.criteria.criteria_at.Given as goal

abbrev pub invariant-loop-line : goal.invariant-loop-line
invariant-loop-line l = AreFirst l.engine l.lines l.line-index l.found.items
