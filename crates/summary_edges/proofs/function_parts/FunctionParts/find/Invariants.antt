use Rattle.std.proofs.Common.{◌≤◌, ◌-◌, length}
use Rattle.matched_paths.specs.VertexRanges.{AreApartAt}
use Rattle.summary_edges.specs.FunctionParts.{AreFirstParts}
use Rattle.summary_edges.proofs.function_parts.FunctionParts.find.Given as goal

abbrev pub invariant-loop-first : goal.invariant-loop-first
invariant-loop-first l = record {
  parts : AreFirstParts l.g l.parts l.first;
  apart : AreApartAt l.g.vertices l.first;
  inside : l.first ≤ length l.g.vertices;
}

abbrev pub decreases-loop-first : goal.decreases-loop-first
decreases-loop-first l = length l.g.vertices - l.first
