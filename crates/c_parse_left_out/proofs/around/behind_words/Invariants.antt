use Rattle.std.proofs.Common.{◌≡◌, drop}
use Rattle.c_language.specs.LeftOut as grammar
use Rattle.c_parse_left_out.proofs.around.behind_words.Given as goal

abbrev pub invariant-loop-at : goal.invariant-loop-at
invariant-loop-at l = grammar.behind_words l.fn.before ≡ grammar.behind_words (drop l.at l.fn.before)
