use Rattle.std.proofs.Common.{sym, ◌∙◌, ap, subst}
use Rattle.bit_rows.specs.Sets.{has}
use Rattle.forward_chop.specs.Pairs.{IsPairSet}
use Rattle.forward_chop.proofs.PairLaws.{asked_one}
use Rattle.forward_chop.proofs.wanted.Wanted.ask.Goals as goal

pub returns : goal.returns
returns c =
    let old = c.args.self.now in
    let here = sym c.covers.ensures ∙ c.if-not-covers.false in
    let none = sym (ap (has old.pairs) c.place-place.ensures.is) ∙ sym c.has.ensures ∙ c.if-has.false in
    asked_one old c.set.new.self c.requires c.args.way_in c.args.out here (subst (λ k. IsPairSet c.args.way_in k old c.set.new.self) c.place-place.ensures.is c.set.ensures) none
