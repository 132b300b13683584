use Rattle.std.proofs.Common.{◌≡◌, ℕ, ◌+◌, ◌<◌, ◌↔◌, IsTrue, length, get_or}
use Rattle.bit_rows.specs.Sets.{has}
use Rattle.forward_chop.proofs.begin.begin.Given as goal

abbrev pub invariant-loop-v : goal.invariant-loop-v
invariant-loop-v l = record {
  size : length l.marks ≡ length l.initial.marks;
  exact : (k : ℕ) → IsTrue (has l.marks k) ↔ ((i : ℕ) × (i < l.v-index) × (k ≡ l.base + get_or l.list i 0));
}
