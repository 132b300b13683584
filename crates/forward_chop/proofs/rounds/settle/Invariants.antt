use Rattle.std.proofs.Common.{◌≡◌, ◌+◌, ◌-◌, ◌<◌, ℕ, Bool, cond, length, false}
use Rattle.bit_rows.specs.Sets.{has, count_of}
use Rattle.forward_chop.specs.Rounds.{AreParts, HasGone}
use Rattle.forward_chop.proofs.rounds.settle.Given as goal

abbrev pub invariant-loop-grows : goal.invariant-loop-grows
invariant-loop-grows l = record {
  parts : AreParts l.g l.parts.items;
  gone : (b : Bool) × HasGone l.g.edges l.initial.wanted l.initial.into l.wanted l.into b;
  down : l.grows ≡ false → (x : ℕ) → x < length l.g.vertices → has l.wanted.due.items x ≡ false;
}

abbrev pub decreases-loop-grows : goal.decreases-loop-grows
decreases-loop-grows l = (length l.wanted.pairs - count_of l.wanted.pairs) + cond l.grows 1 0
