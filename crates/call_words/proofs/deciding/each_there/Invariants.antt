use Rattle.std.proofs.Common.{ℕ, ◌<◌, slice_index_or, map}
use Rattle.std.specs.Prelude.{Contains}
use Rattle.std.specs.Borrow.{Bor}
use Rattle.call_words.specs.Sorting.{Bytes}
use Rattle.call_words.specs.Forms.{pairs}
use Rattle.call_words.proofs.deciding.each_there.Given as goal

abbrev pub invariant-loop-name : goal.invariant-loop-name
invariant-loop-name l = (k : ℕ) (d : Bor Bytes) → k < l.name-index → Contains (map (λ o. o.0) (pairs l.given)) (slice_index_or l.names k d).now
