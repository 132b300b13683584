use Rattle.std.proofs.Common.{length, ◌-◌}
use Rattle.matched_paths.proofs.RangeLaws.{IsRun}
use Rattle.matched_paths.proofs.vertex_range.range_at.Given as goal

abbrev pub invariant-loop-last : goal.invariant-loop-last
invariant-loop-last l = IsRun l.vertices l.first l.last l.function

abbrev pub decreases-loop-last : goal.decreases-loop-last
decreases-loop-last l = length l.vertices - l.last
