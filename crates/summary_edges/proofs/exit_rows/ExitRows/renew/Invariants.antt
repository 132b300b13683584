use Rattle.summary_edges.proofs.RenewLaws.{IsRenewing}
use Rattle.summary_edges.proofs.exit_rows.ExitRows.renew.Given as goal

abbrev pub invariant-loop-vertex : goal.invariant-loop-vertex
invariant-loop-vertex l = IsRenewing l.g l.news l.fn.known l.part l.initial.self l.vertex l.self
