use Rattle.std.proofs.Common.{◌≢◌, ℕ, ◌<◌, slice_index_or}
use Rattle.std.specs.Borrow.{Bor}
use Rattle.call_words.specs.Sorting.{Bytes}
use Rattle.call_words.proofs.deciding.is_given.Given as goal

abbrev pub invariant-loop-option : goal.invariant-loop-option
invariant-loop-option l = (k : ℕ) (d : Bor Bytes × Bor Bytes) → k < l.option-index → (slice_index_or l.given k d).0.now ≢ l.name
