use Rattle.std.proofs.Common.{◌≡◌, ℕ, [], ◌++◌, length, All, slice_index_or}
use Rattle.std.specs.Vec.Iter.{into_iter_items, into_iter_len}
use Rattle.slice_batch.specs.Team.{ArePlaced, IsMade, IsTextAt, numbers}
use Rattle.slice_batch.proofs.placing.place.Given as goal

abbrev pub invariant-loop-one : goal.invariant-loop-one
invariant-loop-one l = record {
  all : l.yielded ++ into_iter_items l.one-iterator ≡ into_iter_items l.initial.one-iterator;
  long : into_iter_len l.one-iterator ≡ length (into_iter_items l.one-iterator);
  each : All (IsMade l.e l.list) (into_iter_items l.one-iterator);
  places : length l.texts.items ≡ length l.list;
  placed : ArePlaced l.e l.list (numbers l.yielded) l.texts.items;
  kept : (k : ℕ) → IsTextAt l.e l.list k (slice_index_or l.initial.texts.items k []) → IsTextAt l.e l.list k (slice_index_or l.texts.items k []);
}
