use Rattle.std.proofs.Common.{◌≡◌, ap, sym, ◌∙◌, slice_get, Some}
use Rattle.std.specs.Option.{option_copied}
use Rattle.c_parse_left_out.proofs.AroundLemmas.{long_at, long_later, no_long}
use Rattle.c_parse_left_out.proofs.around.holds_long.Goals as goal

pub returns-then-is_token : goal.returns-then-is_token
returns-then-is_token c =
    let here : slice_get c.args.before.now c.loop-at.at ≡ Some c.in-Some.token.now = sym c.get.ensures ∙ ap option_copied c.in-Some.is in
    sym (c.loop-at.invariant ∙ long_at c.loop-at.at c.args.before.now c.in-Some.token.now here (sym c.is_token.ensures ∙ c.if-is_token.true))

pub returns-then-not-is_int_word : goal.returns-then-not-is_int_word
returns-then-not-is_int_word c =
    let here : slice_get c.args.before.now c.loop-at.at ≡ Some c.in-Some.token.now = sym c.get.ensures ∙ ap option_copied c.in-Some.is in
    sym (c.loop-at.invariant ∙ no_long c.loop-at.at c.args.before.now c.in-Some.token.now here (sym c.is_token.ensures ∙ c.if-is_token.false) (sym c.is_int_word.ensures ∙ c.if-not-is_int_word.true))

pub loop-at-preserved : goal.loop-at-preserved
loop-at-preserved c =
    let here : slice_get c.args.before.now c.loop-at.at ≡ Some c.in-Some.token.now = sym c.get.ensures ∙ ap option_copied c.in-Some.is in
    c.loop-at.invariant ∙ long_later c.loop-at.at c.args.before.now c.in-Some.token.now here (sym c.is_token.ensures ∙ c.if-is_token.false) (sym c.is_int_word.ensures ∙ c.if-not-is_int_word.false)
