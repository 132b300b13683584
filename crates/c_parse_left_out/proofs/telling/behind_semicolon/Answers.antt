use Rattle.std.proofs.Common.{◌≡◌, drop, ap, sym, ◌∙◌, ◌∷◌}
use Rattle.c_language.specs.LeftOut as grammar
use Rattle.c_parse_left_out.proofs.PlaceLemmas.{semicolon_later, behind_next}
use Rattle.c_parse_left_out.proofs.telling.behind_semicolon.Goals as goal

pub loop-at-preserved : goal.loop-at-preserved
loop-at-preserved c =
    let front : drop c.loop-at.at c.args.tokens.now ≡ c.in-Some.token.now ∷ c.in-Some.behind.now = sym c.split_at.ensures.back ∙ c.in-Some.ensures.cases.0 in
    c.loop-at.invariant
    ∙ (semicolon_later c.loop-at.at c.args.tokens.now c.in-Some.token.now c.in-Some.behind.now front (sym c.is_token.ensures ∙ c.if-is_token.false)
    ∙ ap grammar.behind_semicolon (sym (behind_next c.loop-at.at c.args.tokens.now c.in-Some.token.now c.in-Some.behind.now front)))
