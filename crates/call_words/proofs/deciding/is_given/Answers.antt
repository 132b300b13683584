use Rattle.std.proofs.Common.{refl, arith}
use Rattle.std.proofs.lemmas.Bool.{false≢true}
use Rattle.call_words.proofs.Places.{given_here, given_nowhere}
use Rattle.call_words.proofs.deciding.is_given.Goals as goal

pub returns-then-is_same : goal.returns-then-is_same
returns-then-is_same c = (
  λ _. given_here c.args.given.now c.args.name.now c.loop-option.option-index _ c.loop-option-test.true (c.is_same.ensures.same.0 c.if-is_same.true),
  λ _. refl,
)

pub returns : goal.returns
returns c = (
  λ t. absurd (false≢true t),
  λ has. absurd (given_nowhere c.args.given.now c.args.name.now (λ k d lt. c.loop-option.invariant k d (omega (arith, lt, c.loop-option-test.false))) has),
)
