use Rattle.std.proofs.Common.{◌-◌}
use Rattle.dep_model.specs.Facts.{HoldsFact}
use Rattle.summary_edges.proofs.FillLaws.{IsSweeping}
use Rattle.summary_edges.proofs.exit_rows.ExitRows.sweep.Given as goal

abbrev pub invariant-loop-vertex : goal.invariant-loop-vertex
invariant-loop-vertex l = IsSweeping l.g (HoldsFact l.g l.known) l.part l.initial.self l.vertex l.self l.grows

abbrev pub decreases-loop-vertex : goal.decreases-loop-vertex
decreases-loop-vertex l = l.vertex - l.part.range.first
