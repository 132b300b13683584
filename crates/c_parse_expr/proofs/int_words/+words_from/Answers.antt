use Rattle.std.proofs.Common.{sym, ◌∙◌, arith}
use Rattle.c_parse_expr.proofs.IntLaws.{words_end, words_clash, words_more, words_left}
use Rattle.c_parse_expr.proofs.int_words.+words_from.Goals as goal

pub returns-in_default : goal.returns-in_default
returns-in_default t c = words_end _ _ (sym c.next_word.ensures ∙ c.in_default.is)

pub returns-in_default-with_word : goal.returns-in_default-with_word
returns-in_default-with_word t c = rw c.refuse.ensures (words_clash _ _ _ (sym c.next_word.ensures ∙ c.in-Some.is) (sym c.with_word.ensures ∙ c.in_default-with_word.is))

pub words_from-requires : goal.words_from-requires
words_from-requires t c = let e = words_left _ _ (sym c.next_word.ensures ∙ c.in-Some.is) in let f = c.decreases in (rw c.skip.ensures (omega (arith, e, f)), tt)

pub returns : goal.returns
returns t c = rw (words_more _ _ _ _ (sym c.next_word.ensures ∙ c.in-Some.is) (sym c.with_word.ensures ∙ c.in-Some-with_word.is), sym c.skip.ensures) c.words_from.ensures
