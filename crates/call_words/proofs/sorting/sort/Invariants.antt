use Rattle.std.proofs.Common.{◌≡◌, take}
use Rattle.std.specs.Prelude.{fold}
use Rattle.call_words.specs.Sorting.{and_sorted, none_sorted}
use Rattle.call_words.specs.Forms.{texts, sorted_view}
use Rattle.call_words.proofs.sorting.sort.Given as goal

abbrev pub invariant-loop-word : goal.invariant-loop-word
invariant-loop-word l = sorted_view l.sorted ≡ fold and_sorted none_sorted (texts (take l.word-index l.words))
