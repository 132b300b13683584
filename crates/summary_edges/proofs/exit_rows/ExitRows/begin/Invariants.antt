use Rattle.summary_edges.proofs.FillLaws.{IsBegun}
use Rattle.summary_edges.proofs.exit_rows.ExitRows.begin.Given as goal

abbrev pub invariant-loop-exit : goal.invariant-loop-exit
invariant-loop-exit l = IsBegun l.g l.part l.initial.self l.exit l.self
