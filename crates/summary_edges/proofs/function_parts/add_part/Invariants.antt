use Rattle.std.proofs.Common.{◌≡◌, ◌-◌, ◌<◌, ◌≤◌, ℕ, length, get_or}
use Rattle.summary_edges.proofs.function_parts.add_part.Given as goal

abbrev pub invariant-loop-parts : goal.invariant-loop-parts
invariant-loop-parts l = record {
  list : l.parts.list ≡ l.initial.parts.list;
  numbers : l.parts.of_number ≡ l.initial.parts.of_number;
  from : l.part.range.first ≤ length l.parts.of_vertex.items;
  to : length l.parts.of_vertex.items ≤ l.part.range.last;
  kept : (v : ℕ) → v < l.part.range.first → get_or l.parts.of_vertex.items v 0 ≡ get_or l.initial.parts.of_vertex.items v 0;
  filled : (v : ℕ) → l.part.range.first ≤ v → v < length l.parts.of_vertex.items → get_or l.parts.of_vertex.items v 0 ≡ length l.initial.parts.list.items;
}

abbrev pub decreases-loop-parts : goal.decreases-loop-parts
decreases-loop-parts l = l.part.range.last - length l.parts.of_vertex.items
