use Rattle.std.proofs.Common.{length}
use Rattle.c_parse_expr.proofs.int_words.+words_from.Given as goal

abbrev pub decreases-words_from : goal.decreases-words_from
decreases-words_from l = length l.tokens.now
