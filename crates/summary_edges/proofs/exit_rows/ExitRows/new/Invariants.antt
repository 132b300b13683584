use Rattle.std.proofs.Common.{◌≡◌, ◌-◌, ◌<◌, ◌≤◌, ℕ, Some, slice_get}
use Rattle.summary_edges.specs.declared.function_parts.FunctionPart.{FunctionPart}
use Rattle.summary_edges.proofs.exit_rows.ExitRows.new.Given as goal

abbrev pub invariant-loop-part : goal.invariant-loop-part
invariant-loop-part l = (i : ℕ) (p : FunctionPart) → i < l.part-index → slice_get l.parts i ≡ Some p → (p.range.last - p.range.first ≤ l.vertices) × (p.last_row - p.first_row ≤ l.exits)
