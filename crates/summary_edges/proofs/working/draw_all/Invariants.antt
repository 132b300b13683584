use Rattle.std.proofs.Common.{◌≡◌, ℕ, ◌-◌, ◌≤◌, Some, slice_get}
use Rattle.crew.specs.Counts.{Has}
use Rattle.crew.specs.Seats.{view, board_of}
use Rattle.summary_edges.specs.declared.function_parts.FunctionPart.{FunctionPart}
use Rattle.summary_edges.specs.ExitRows.{HasRoom}
use Rattle.summary_edges.specs.Workers.{HasDone, HasKept, IsCopy}
use Rattle.summary_edges.proofs.working.draw_all.Given as goal

abbrev pub invariant-loop-number : goal.invariant-loop-number
invariant-loop-number g l = record {
  board : board_of l.seat ≡ board_of l.initial.seat;
  kept : HasKept (view l.initial.seat) (view l.seat);
  copy : IsCopy l.t.graph.now l.known (view l.seat);
  room : (k : ℕ) (p : FunctionPart) → slice_get l.parts k ≡ Some p → HasRoom p l.table;
  knows : HasDone l.t (view l.initial.seat) (view l.seat);
  below : l.next ≤ (view l.seat).end;
  last : 1 ≤ l.next → Has (view l.seat).drawn (l.next - 1);
}

abbrev pub decreases-loop-number : goal.decreases-loop-number
decreases-loop-number g l = (view l.seat).end - l.next
