use Rattle.std.proofs.Common.{◌≡◌, take}
use Rattle.call_words.specs.Forms.{texts}
use Rattle.call_words.specs.Requests.{numbers_of}
use Rattle.call_words.proofs.request.numbers.Given as goal

abbrev pub invariant-loop-word : goal.invariant-loop-word
invariant-loop-word l = l.found.items ≡ numbers_of (texts (take l.word-index l.words))
