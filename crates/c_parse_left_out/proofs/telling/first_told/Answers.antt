use Rattle.std.proofs.Common.{arith, ◌≡◌, drop, reverse, ap, refl, sym, ◌∙◌, ◌∷◌}
use Rattle.c_language.specs.LeftOut as grammar
use Rattle.c_parse_left_out.specs.Telling as spec
use Rattle.c_parse_left_out.proofs.PlaceLemmas.{told_later, open_next, behind_next}
use Rattle.c_parse_left_out.proofs.telling.first_told.Goals as goal

pub loop-at-init : goal.loop-at-init
unfolding grammar.open_braces
loop-at-init c = (refl, refl, omega arith, c.behind_semicolon-after.ensures)

pub loop-at-preserved : goal.loop-at-preserved
loop-at-preserved c =
    let front : drop c.loop-at.at c.args.tokens.now ≡ c.in-Some.token.now ∷ c.in-Some.behind.now = sym c.split_at.ensures.back ∙ c.in-Some.ensures.cases.0 in
    let few = c.loop-at.invariant.2 in
    let one = c.braces_behind-braces.ensures.few in (
      c.loop-at.invariant.0 ∙ told_later c.loop-at.at c.args.tokens.now c.in-Some.token.now c.in-Some.behind.now front
          (ap (λ b. spec.told (reverse b) c.in-Some.token.now c.in-Some.behind.now) (sym c.split_at.ensures.front) ∙ (sym c.is_told.ensures ∙ c.if-is_told.false)),
      c.braces_behind-braces.ensures.value ∙ open_next c.loop-at.at c.args.tokens.now c.in-Some.token.now c.in-Some.behind.now c.loop-at.braces front c.loop-at.invariant.1,
      omega (arith, few, one),
      c.after_next-after.ensures ∙ ap grammar.behind_semicolon (sym (behind_next c.loop-at.at c.args.tokens.now c.in-Some.token.now c.in-Some.behind.now front)),
    )
