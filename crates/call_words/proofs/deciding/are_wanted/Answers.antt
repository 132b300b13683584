use Rattle.std.proofs.Common.{refl, arith}
use Rattle.call_words.proofs.Places.{all_wanted}
use Rattle.call_words.specs.Forms.{view}
use Rattle.call_words.proofs.deciding.are_wanted.Goals as goal

pub returns : goal.returns
returns c = (
  λ _. all_wanted (view c.args.form.now) c.args.others.now (omega (arith, c.if-others-form.false)) (λ k d lt. c.loop-i.invariant k d (omega (arith, lt, c.loop-i-test.false))),
  λ _. refl,
)
