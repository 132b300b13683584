use Rattle.std.proofs.Common.{◌∙◌, refl, sym, arith}
use Rattle.std.proofs.lemmas.Bool.{false≢true}
use Rattle.call_words.proofs.Places.{all_known, not_known}
use Rattle.call_words.specs.Forms.{view}
use Rattle.call_words.proofs.deciding.each_known.Goals as goal

pub returns-then-not-is_of_some : goal.returns-then-not-is_of_some
returns-then-not-is_of_some c = (
  λ t. absurd (false≢true t),
  λ known. absurd (not_known (view c.args.form.now) c.args.given.now c.loop-option.option-index _ c.loop-option-test.true
      (λ is. false≢true (sym c.if-not-is_of_some.true ∙ c.is_of_some.ensures.1 (rw c.kind_of.ensures is))) known),
)

pub returns : goal.returns
returns c = (
  λ _. all_known (view c.args.form.now) c.args.given.now (λ k d lt. c.loop-option.invariant k d (omega (arith, lt, c.loop-option-test.false))),
  λ _. refl,
)
