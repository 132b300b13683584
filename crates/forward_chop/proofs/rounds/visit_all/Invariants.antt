use Rattle.std.proofs.Common.{◌≡◌, ◌<◌, ℕ, false}
use Rattle.bit_rows.specs.Sets.{has}
use Rattle.matched_paths.specs.VertexRanges.{IsInRange}
use Rattle.forward_chop.specs.Rounds.{IsPart, HasGone}
use Rattle.forward_chop.proofs.rounds.visit_all.Given as goal

abbrev pub invariant-loop-way_in : goal.invariant-loop-way_in
invariant-loop-way_in l = record {
  part : IsPart l.g l.part;
  range : l.part.range ≡ l.initial.part.range;
  gone : HasGone l.g.edges l.initial.wanted l.initial.into l.wanted l.into l.grows;
  down : l.grows ≡ false → (x : ℕ) → IsInRange l.initial.part.range x → x < l.way_in → has l.wanted.due.items x ≡ false;
}
