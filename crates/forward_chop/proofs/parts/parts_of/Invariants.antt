use Rattle.std.proofs.Common.{◌≤◌, ◌-◌, length}
use Rattle.matched_paths.specs.VertexRanges.{AreApartAt}
use Rattle.forward_chop.specs.Parts.{AreFirstParts}
use Rattle.forward_chop.proofs.parts.parts_of.Given as goal

abbrev pub invariant-loop-first : goal.invariant-loop-first
invariant-loop-first l = record {
  parts : AreFirstParts l.g l.parts.items l.first;
  apart : AreApartAt l.g.vertices l.first;
  inside : l.first ≤ length l.g.vertices;
}

abbrev pub decreases-loop-first : goal.decreases-loop-first
decreases-loop-first l = length l.g.vertices - l.first
