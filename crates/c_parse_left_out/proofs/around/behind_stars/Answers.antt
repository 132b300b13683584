use Rattle.std.proofs.Common.{◌≡◌, ap, sym, ◌∙◌, slice_get, Some}
use Rattle.std.specs.Option.{option_copied}
use Rattle.c_parse_left_out.proofs.AroundLemmas.{star_at, no_star}
use Rattle.c_parse_left_out.proofs.around.behind_stars.Goals as goal

pub returns-then-not-is_mark : goal.returns-then-not-is_mark
returns-then-not-is_mark c =
    let here : slice_get c.args.side.now c.loop-at.at ≡ Some c.in-Some.token.now = sym c.get.ensures ∙ ap option_copied c.in-Some.is in
    c.from-then-not-is_mark.ensures ∙ sym (c.loop-at.invariant ∙ no_star c.loop-at.at c.args.side.now c.in-Some.token.now here (sym c.is_mark.ensures ∙ c.if-not-is_mark.true))

pub loop-at-preserved : goal.loop-at-preserved
loop-at-preserved c =
    let here : slice_get c.args.side.now c.loop-at.at ≡ Some c.in-Some.token.now = sym c.get.ensures ∙ ap option_copied c.in-Some.is in
    c.loop-at.invariant ∙ star_at c.loop-at.at c.args.side.now c.in-Some.token.now here (sym c.is_mark.ensures ∙ c.if-not-is_mark.false)
