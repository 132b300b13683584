use Rattle.std.proofs.Common.{refl, arith}
use Rattle.run_text.proofs.StartLemmas.{among_at, none_with}
use Rattle.run_text.proofs.starts.line_of.Goals as goal

pub returns-then-has_id : goal.returns-then-has_id
returns-then-has_id c = λ line on.
    among_at _ c.args.id c.args.starts.now c.loop-start.start-index _ c.loop-start-test.true (c.has_id.ensures.0 c.if-has_id.true) refl

pub returns : goal.returns
returns c = λ line on.
    absurd (none_with line c.args.id c.args.starts.now (λ k d lt. c.loop-start.invariant k d (omega (arith, lt, c.loop-start-test.false))) on)
