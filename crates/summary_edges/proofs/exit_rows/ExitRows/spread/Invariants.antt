use Rattle.std.proofs.Common.{take}
use Rattle.summary_edges.proofs.FillLaws.{IsSpreading}
use Rattle.summary_edges.proofs.exit_rows.ExitRows.spread.Given as goal

abbrev pub invariant-loop-edge : goal.invariant-loop-edge
invariant-loop-edge l = IsSpreading l.g l.known l.range l.vertex l.initial.self (take l.edge-index l.edges) l.self l.grows
