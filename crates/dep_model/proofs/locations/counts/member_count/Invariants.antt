use Rattle.std.proofs.Common.{◌≡◌, ◌≤◌, ◌+◌, ℕ, List, length, drop}
use Rattle.dep_model.specs.Locations.{Located, member_parts}
use Rattle.dep_model.specs.LocationObjects.{AreSizes, capped}
use Rattle.dep_model.proofs.locations.counts.member_count.Given as goal

abbrev pub invariant-loop-member : goal.invariant-loop-member
invariant-loop-member l = record {
  is : (inside : ℕ → List Located) → AreSizes l.sizes inside
      → capped (l.sum + length (member_parts inside l.member-index (drop l.member-index l.members))) ≡ capped (length (member_parts inside 0 l.members));
  small : l.sum ≤ 4097;
}
