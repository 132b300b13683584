use Rattle.std.proofs.Common.{◌≡◌, ap, sym, ◌∙◌, slice_get, Some}
use Rattle.std.specs.Option.{option_copied}
use Rattle.c_parse_left_out.proofs.AroundLemmas.{second_semicolon, semicolon_after}
use Rattle.c_parse_left_out.proofs.around.doubles_semicolon.Goals as goal
use Rattle.std.proofs.Common.{codes}
use Rattle.c_language.specs.Sees.{sees}
use Rattle.c_language.specs.declared.token.TokenKind.TheVariants.{Mark}

pub returns-then-is_mark : goal.returns-then-is_mark
returns-then-is_mark c =
    let here : slice_get c.args.behind.now c.loop-at.at ≡ Some c.in-Some.token.now = sym c.get.ensures ∙ ap option_copied c.in-Some.is in
    c.has.ensures ∙ sym (ap (sees Mark (codes ";")) c.loop-at.invariant ∙ second_semicolon c.loop-at.at c.args.behind.now c.in-Some.token.now here (sym c.is_mark.ensures ∙ c.if-is_mark.true))

pub loop-at-preserved : goal.loop-at-preserved
loop-at-preserved c =
    let here : slice_get c.args.behind.now c.loop-at.at ≡ Some c.in-Some.token.now = sym c.get.ensures ∙ ap option_copied c.in-Some.is in
    c.loop-at.invariant ∙ semicolon_after c.loop-at.at c.args.behind.now c.in-Some.token.now here (sym c.is_mark.ensures ∙ c.if-is_mark.false)
