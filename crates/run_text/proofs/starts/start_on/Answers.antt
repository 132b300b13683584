use Rattle.std.proofs.Common.{refl, arith}
use Rattle.run_text.proofs.StartLemmas.{among_at, none_on}
use Rattle.run_text.proofs.starts.start_on.Goals as goal

pub returns-then-is_on : goal.returns-then-is_on
returns-then-is_on c =
    let on = c.is_on.ensures.0 c.if-is_on.true in
    (on, (_, among_at c.args.line _ c.args.starts.now c.loop-start.start-index _ c.loop-start-test.true refl on))

pub returns : goal.returns
returns c = none_on c.args.line c.args.starts.now (λ k d lt. c.loop-start.invariant k d (omega (arith, lt, c.loop-start-test.false)))
