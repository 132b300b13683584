use Rattle.std.proofs.Common.{◌*◌, ◌-◌, length}
use Rattle.bit_rows.specs.Tables.{count_all}
use Rattle.dep_model.specs.Facts.{HoldsFact}
use Rattle.summary_edges.specs.ExitRows.{HaveOneShape, IsFilling}
use Rattle.summary_edges.proofs.exit_rows.ExitRows.close.Given as goal

abbrev pub invariant-loop-part : goal.invariant-loop-part
invariant-loop-part l = IsFilling l.g (HoldsFact l.g l.known) l.part l.self × HaveOneShape l.initial.self l.self

abbrev pub decreases-loop-part : goal.decreases-loop-part
decreases-loop-part l = length l.initial.self.rows.sets * l.initial.self.rows.bits - count_all l.self.rows
