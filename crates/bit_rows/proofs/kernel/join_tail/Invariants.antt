use Rattle.std.proofs.Common.{◌≡◌, ℕ, ◌<◌, ◌≤◌, ◌↔◌, IsFalse, get_or}
use Rattle.std.specs.Int.Bits.{bit_or}
use Rattle.bit_rows.proofs.kernel.join_tail.Given as goal

abbrev pub invariant-loop-at : goal.invariant-loop-at
invariant-loop-at l = record {
  joined : (k : ℕ) → k < l.at → get_or l.to k 0 ≡ bit_or (get_or l.fn.to k 0) (get_or l.from k 0);
  rest : (k : ℕ) → l.at ≤ k → get_or l.to k 0 ≡ get_or l.fn.to k 0;
  told : IsFalse l.changed ↔ (l.to ≡ l.fn.to);
}
