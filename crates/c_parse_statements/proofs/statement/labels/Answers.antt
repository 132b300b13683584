use Rattle.std.proofs.Common.{arith, rules}
use Rattle.std.proofs.lemmas.Grind.{common_steps}
use Rattle.c_parse_statements.specs.StatementReading.{labels_from}
use Rattle.c_parse_statements.proofs.statement.labels.Goals as goal
use Rattle.c_language.proofs.Turns.{one_more}

pub loop-turn-preserved : goal.loop-turn-preserved
unfolding labels_from
loop-turn-preserved c =
    let e = one_more (λ n. labels_from c.args.depth n c.loop-turn.found c.loop-turn.tokens) _ c.loop-turn._turn c.loop-turn-test.true c.loop-turn.invariant in
    first_of (search rules, grind (arith, common_steps))
