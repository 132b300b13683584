use Rattle.std.proofs.Common.{◌≡◌, ◌++◌, map}
use Rattle.std.specs.Vec.Iter.{into_iter_items}
use Rattle.std.specs.String.{string_bytes}
use Rattle.call_words.proofs.arguments.words_of.Given as goal

abbrev pub invariant-loop-word : goal.invariant-loop-word
invariant-loop-word l = l.words.items ++ map string_bytes (into_iter_items l.word-iterator) ≡ map string_bytes (into_iter_items l.initial.word-iterator)
