use Rattle.std.proofs.Common.{ℕ, ◌<◌, slice_index_or}
use Rattle.std.specs.Prelude.{IsSomeAnd}
use Rattle.std.specs.Borrow.{Bor}
use Rattle.call_words.specs.Sorting.{Bytes}
use Rattle.call_words.specs.Grammar.{IsOf, kind_of}
use Rattle.call_words.specs.Forms.{view}
use Rattle.call_words.proofs.deciding.each_known.Given as goal

abbrev pub invariant-loop-option : goal.invariant-loop-option
invariant-loop-option l = (k : ℕ) (d : Bor Bytes × Bor Bytes) → k < l.option-index
    → IsSomeAnd (kind_of (view l.form) (slice_index_or l.given k d).0.now) (λ kind. IsOf kind (slice_index_or l.given k d).1.now)
