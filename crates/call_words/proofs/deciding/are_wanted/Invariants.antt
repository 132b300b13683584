use Rattle.std.proofs.Common.{ℕ, ◌<◌, slice_index_or}
use Rattle.std.specs.Prelude.{IsSomeAnd}
use Rattle.std.specs.Borrow.{Bor}
use Rattle.call_words.specs.Sorting.{Bytes}
use Rattle.call_words.specs.Grammar.{IsOf, kind_at}
use Rattle.call_words.specs.Forms.{view}
use Rattle.call_words.proofs.deciding.are_wanted.Given as goal

abbrev pub invariant-loop-i : goal.invariant-loop-i
invariant-loop-i l = (k : ℕ) (d : Bor Bytes) → k < l.i → IsSomeAnd (kind_at (view l.form) k) (λ kind. IsOf kind (slice_index_or l.others k d).now)
