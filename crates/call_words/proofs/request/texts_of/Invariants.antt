use Rattle.std.proofs.Common.{◌≡◌, ℕ, ◌<◌, take, slice_index_or}
use Rattle.std.specs.Str.{IsUtf8}
use Rattle.call_words.specs.Sorting.{Bytes}
use Rattle.call_words.specs.Forms.{texts}
use Rattle.call_words.proofs.request.texts_of.Given as goal

abbrev pub invariant-loop-word : goal.invariant-loop-word
invariant-loop-word l = record {
  found : texts l.found.items ≡ take l.word-index l.words;
  utf8 : (k : ℕ) (d : Bytes) → k < l.word-index → IsUtf8 (slice_index_or l.words k d);
}
