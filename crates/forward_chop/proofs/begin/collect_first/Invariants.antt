use Rattle.std.proofs.Common.{◌≡◌, ℕ, ◌<◌, ◌↔◌, IsTrue, length}
use Rattle.bit_rows.specs.Sets.{has}
use Rattle.forward_chop.proofs.begin.collect_first.Given as goal

abbrev pub invariant-loop-v : goal.invariant-loop-v
invariant-loop-v l = record {
  size : length l.into ≡ l.size;
  exact : (u : ℕ) → IsTrue (has l.into u) ↔ ((u < l.v) × IsTrue (has l.marks u));
}
