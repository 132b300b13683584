use Rattle.std.proofs.Common.{arith, rules}
use Rattle.std.proofs.lemmas.Grind.{common_steps}
use Rattle.c_language.proofs.NestingLemmas.{type_nesting-PointerTo}
use Rattle.c_parse_expr.specs.TypeReading.{stars}
use Rattle.c_parse_expr.proofs.types.stars.Goals as goal
use Rattle.c_language.proofs.Turns.{one_more}

pub loop-star-preserved : goal.loop-star-preserved
unfolding stars
loop-star-preserved c =
    let e = one_more (λ n. stars n c.loop-star.shape c.loop-star.tokens) _ c.loop-star._star c.loop-star-test.true c.loop-star.invariant.same in
    let f = type_nesting-PointerTo c.loop-star.shape in
    record {
      same = first_of (search rules, grind (arith, common_steps));
      low = first_of (search rules, grind (arith, common_steps));
    }
