use Rattle.lines_top.proofs.FirstLines.{AreFirst}
use Rattle.lines_top.proofs.criteria.criteria_of.Given as goal

abbrev pub invariant-loop-line : goal.invariant-loop-line
invariant-loop-line l = AreFirst l.engine l.lines l.line-index l.found.items
