use Rattle.std.proofs.Common.{◌≢◌, ℕ, ◌<◌, slice_index_or}
use Rattle.c_tree.specs.declared.numbered.Start.{Start}
use Rattle.run_text.proofs.starts.line_of.Given as goal

abbrev pub invariant-loop-start : goal.invariant-loop-start
invariant-loop-start l = (k : ℕ) (d : Start) → k < l.start-index → (slice_index_or l.starts k d).id ≢ l.id
