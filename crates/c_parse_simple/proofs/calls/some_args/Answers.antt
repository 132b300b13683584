use Rattle.std.proofs.Common.{arith, rules, codes}
use Rattle.std.proofs.lemmas.Grind.{common_steps}
use Rattle.c_parse_simple.specs.SimpleReading.{separated, arg}
use Rattle.c_parse_simple.proofs.calls.some_args.Goals as goal
use Rattle.c_language.proofs.Turns.{one_more}

pub loop-turn-preserved : goal.loop-turn-preserved
unfolding separated
loop-turn-preserved c =
    let e = one_more (λ n. separated (codes ")") (arg c.args.depth) n c.loop-turn.found c.loop-turn.tokens) _ c.loop-turn._turn c.loop-turn-test.true c.loop-turn.invariant in
    first_of (search rules, grind (arith, common_steps))
