use Rattle.std.proofs.Common.{◌≡◌, drop, sym, ap, ◌∙◌, arith}
use Rattle.std.proofs.lemmas.List.{drop-drop}
use Rattle.c_parse_expr.specs.TypeReading.{star_count}
use Rattle.c_parse_expr.proofs.TypeLaws.{no_star_count, one_star_more}
use Rattle.c_parse_expr.proofs.types.count_stars.Goals as goal

pub returns-then-not-sees-clause-count : goal.returns-then-not-sees-clause-count
returns-then-not-sees-clause-count c =
    let none = no_star_count c.loop-turn.tokens (sym c.sees.ensures ∙ c.if-not-sees.true) in
    omega (arith, none, c.loop-turn.invariant.all)

pub returns-then-not-sees-clause-passed : goal.returns-then-not-sees-clause-passed
returns-then-not-sees-clause-passed c =
    let none = no_star_count c.loop-turn.tokens (sym c.sees.ensures ∙ c.if-not-sees.true) in
    let all : c.loop-turn.stars ≡ star_count c.args.tokens.now = omega (arith, none, c.loop-turn.invariant.all) in
    c.loop-turn.invariant.passed ∙ ap (λ n. drop n c.args.tokens.now) all

pub loop-turn-preserved : goal.loop-turn-preserved
loop-turn-preserved c =
    let more = one_star_more c.loop-turn.tokens (sym c.sees.ensures ∙ c.if-not-sees.false) in
    record {
      count = omega (arith, c.loop-turn.invariant.count);
      all = rw c.skip.ensures (omega (arith, more, c.loop-turn.invariant.all));
      passed = c.skip.ensures ∙ (ap (drop 1) c.loop-turn.invariant.passed ∙ drop-drop 1 c.loop-turn.stars c.args.tokens.now);
    }
