use Rattle.std.proofs.Common.{◌≡◌, ◌++◌, drop}
use Rattle.lines_top.specs.Words.{as_slice}
use Rattle.lines_top.proofs.words.behind_slice.Given as goal

abbrev pub invariant-loop-word : goal.invariant-loop-word
invariant-loop-word l = l.whole.items ++ drop l.word-index l.words ≡ as_slice l.words
