use Rattle.std.proofs.Common.{◌≡◌, length}
use Rattle.slice_batch.proofs.placing.places.Given as goal

abbrev pub invariant-loop-place : goal.invariant-loop-place
invariant-loop-place l = length l.texts.items ≡ l._place
