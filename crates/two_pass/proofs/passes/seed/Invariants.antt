use Rattle.std.proofs.Common.{◌≡◌, ℕ, ◌<◌, ◌↔◌, IsTrue, length, get_or}
use Rattle.bit_rows.specs.Sets.{has}
use Rattle.two_pass.proofs.passes.seed.Given as goal

abbrev pub invariant-loop-v : goal.invariant-loop-v
invariant-loop-v l = record {
  size : length l.marks ≡ length l.fn.marks;
  exact : (v : ℕ) → IsTrue (has l.marks v) ↔ ((i : ℕ) × (i < l.v-index) × (get_or l.from i v ≡ v));
}
