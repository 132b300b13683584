use Rattle.std.proofs.Common.{◌<◌, ℕ}
use Rattle.bit_rows.specs.Tables.{Holds}
use Rattle.summary_edges.specs.ExitRows.{HaveOneShape}
use Rattle.summary_edges.proofs.exit_rows.ExitRows.clear.Given as goal

abbrev pub invariant-loop-vertex : goal.invariant-loop-vertex
invariant-loop-vertex l = record {
  shape : HaveOneShape l.initial.self l.self;
  empty : (j k : ℕ) → j < l.vertex → Holds l.self.rows j k → ⊥;
}
