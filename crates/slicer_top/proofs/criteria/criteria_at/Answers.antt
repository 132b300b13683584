use Rattle.std.proofs.Common.{rules}
use Rattle.slicer_top.proofs.CriteriaLaws.{one_more_first}
use Rattle.slicer_top.proofs.criteria.criteria_at.Goals as goal

pub loop-line-preserved : goal.loop-line-preserved
loop-line-preserved c =
    one_more_first c.args.engine.now c.args.lines.now c.loop-line.line-index c.loop-line.found.items c.push.new.self.items c.in_ok-criterion.criterion
    c.loop-line.invariant (search rules) (search rules) (search rules)
