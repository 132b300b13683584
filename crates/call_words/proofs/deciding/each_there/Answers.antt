use Rattle.std.proofs.Common.{◌∙◌, refl, sym, arith}
use Rattle.std.proofs.lemmas.Bool.{false≢true}
use Rattle.call_words.proofs.Places.{all_there, more_there, not_there}
use Rattle.std.specs.Prelude.{Contains, map}
use Rattle.call_words.specs.Sorting.{Bytes}
use Rattle.call_words.specs.Forms.{pairs}
use Rattle.call_words.proofs.deciding.each_there.Goals as goal

pub returns-then-not-is_given : goal.returns-then-not-is_given
returns-then-not-is_given c = (
  λ t. absurd (false≢true t),
  λ there. absurd (not_there c.args.names.now (pairs c.args.given.now) c.loop-name.name-index _ c.loop-name-test.true
      (λ has. false≢true (sym c.if-not-is_given.true ∙ c.is_given.ensures.1 has)) there),
)

pub loop-name-preserved : goal.loop-name-preserved
loop-name-preserved c =
    more_there c.args.names.now (λ name. Contains (map (λ (o : Bytes × Bytes). o.0) (pairs c.args.given.now)) name) c.loop-name.name-index _ c.loop-name-test.true
    (c.is_given.ensures.0 c.if-not-is_given.false) c.loop-name.invariant

pub returns : goal.returns
returns c = (
  λ _. all_there c.args.names.now (pairs c.args.given.now) (λ k d lt. c.loop-name.invariant k d (omega (arith, lt, c.loop-name-test.false))),
  λ _. refl,
)
