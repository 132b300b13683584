use Rattle.std.proofs.Common.{◌≢◌, ℕ, ◌<◌, slice_index_or}
use Rattle.std.specs.Borrow.{Bor}
use Rattle.call_words.specs.Sorting.{Bytes}
use Rattle.call_words.proofs.deciding.each_once.Given as goal

abbrev pub invariant-loop-i : goal.invariant-loop-i
invariant-loop-i l = (k j : ℕ) (d : Bor Bytes × Bor Bytes) → k < j → j < l.i → (slice_index_or l.given k d).0.now ≢ (slice_index_or l.given j d).0.now
