use Rattle.std.proofs.Common.{◌≡◌, ap, sym, ◌∙◌, slice_get, Some}
use Rattle.std.specs.Option.{option_copied}
use Rattle.c_parse_left_out.proofs.AroundLemmas.{word_at, no_word}
use Rattle.c_parse_left_out.proofs.around.behind_words.Goals as goal

pub returns-then-not-is_int_word : goal.returns-then-not-is_int_word
returns-then-not-is_int_word c =
    let here : slice_get c.args.before.now c.loop-at.at ≡ Some c.in-Some.token.now = sym c.get.ensures ∙ ap option_copied c.in-Some.is in
    c.from-then-not-is_int_word.ensures ∙ sym (c.loop-at.invariant ∙ no_word c.loop-at.at c.args.before.now c.in-Some.token.now here (sym c.is_int_word.ensures ∙ c.if-not-is_int_word.true))

pub loop-at-preserved : goal.loop-at-preserved
loop-at-preserved c =
    let here : slice_get c.args.before.now c.loop-at.at ≡ Some c.in-Some.token.now = sym c.get.ensures ∙ ap option_copied c.in-Some.is in
    c.loop-at.invariant ∙ word_at c.loop-at.at c.args.before.now c.in-Some.token.now here (sym c.is_int_word.ensures ∙ c.if-not-is_int_word.false)
