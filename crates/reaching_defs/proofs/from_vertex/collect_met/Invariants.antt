use Rattle.std.proofs.Common.{◌≡◌, ℕ, ◌↔◌, ◌⊎◌, Contains}
use Rattle.reaching_defs.specs.Arrivals.{IsMet}
use Rattle.reaching_defs.specs.Listings.{IsAmongFirst}
use Rattle.reaching_defs.proofs.from_vertex.collect_met.Given as goal

abbrev pub invariant-loop-w : goal.invariant-loop-w
invariant-loop-w l = record {
  size : l.targets.bound ≡ l.fn.targets.bound;
  exact : (w : ℕ) → Contains l.targets.members w ↔ (Contains l.fn.targets.members w ⊎ (IsAmongFirst l.reached l.w-index w × IsMet l.base l.d l.arrivals.rows l.used w));
}
