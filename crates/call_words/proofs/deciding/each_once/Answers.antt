use Rattle.std.proofs.Common.{◌∙◌, refl, sym, arith}
use Rattle.std.proofs.lemmas.Bool.{false≢true}
use Rattle.call_words.proofs.Places.{all_once, more_once, not_once}
use Rattle.call_words.proofs.deciding.each_once.Goals as goal

pub returns-then-is_given : goal.returns-then-is_given
returns-then-is_given c = (
  λ t. absurd (false≢true t),
  λ once. absurd (not_once c.args.given.now c.loop-i.i _ c.loop-i-test.true (c.is_given.ensures.0 c.if-is_given.true) once),
)

pub loop-i-preserved : goal.loop-i-preserved
loop-i-preserved c =
    more_once c.args.given.now c.loop-i.i _ c.loop-i-test.true (λ has. false≢true (sym c.if-is_given.false ∙ c.is_given.ensures.1 has)) c.loop-i.invariant

pub returns : goal.returns
returns c = (
  λ _. all_once c.args.given.now (λ k j d lt below. c.loop-i.invariant k j d lt (omega (arith, below, c.loop-i-test.false))),
  λ _. refl,
)
