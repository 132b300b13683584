use Rattle.std.proofs.Common.{◌≡◌, ◌≤◌, ℕ, length, false, Some, slice_get}
use Rattle.forward_chop.specs.declared.field.Field.{Field}
use Rattle.forward_chop.specs.Rounds.{AreParts, HasGone, NoneDue}
use Rattle.forward_chop.proofs.rounds.round.Given as goal

abbrev pub invariant-loop-place : goal.invariant-loop-place
invariant-loop-place l = record {
  parts : AreParts l.g l.parts.items;
  inside : l.place ≤ length l.parts.items;
  gone : HasGone l.g.edges l.initial.wanted l.initial.into l.wanted l.into l.grows;
  down : l.grows ≡ false → (k : ℕ) (p : Field) → l.place ≤ k → slice_get l.parts.items k ≡ Some p → NoneDue p.range l.wanted;
}

abbrev pub decreases-loop-place : goal.decreases-loop-place
decreases-loop-place l = l.place
