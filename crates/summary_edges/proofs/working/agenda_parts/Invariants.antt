use Rattle.std.proofs.Common.{◌≡◌, ℕ, Some, length, slice_get}
use Rattle.std.specs.Prelude.{slice_index}
use Rattle.summary_edges.specs.declared.function_parts.FunctionPart.{FunctionPart}
use Rattle.summary_edges.specs.Workers.{IsPartOf}
use Rattle.summary_edges.proofs.working.agenda_parts.Given as goal

abbrev pub invariant-loop-function : goal.invariant-loop-function
invariant-loop-function l = record {
  long : length l.list.items ≡ l.function-index;
  each : (k : ℕ) (p : FunctionPart) → slice_get l.list.items k ≡ Some p → IsPartOf l.t.graph.now (slice_index l.t.agenda.now k) p;
}
