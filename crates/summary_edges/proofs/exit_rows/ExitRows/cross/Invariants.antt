use Rattle.std.proofs.Common.{take}
use Rattle.summary_edges.proofs.FillLaws.{IsCrossing}
use Rattle.summary_edges.proofs.exit_rows.ExitRows.cross.Given as goal

abbrev pub invariant-loop-enter : goal.invariant-loop-enter
invariant-loop-enter l = IsCrossing l.g l.index l.known l.range l.leave l.initial.self (take l.enter-index l.enters) l.self l.grows
