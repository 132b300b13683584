use Rattle.std.proofs.Common.{◌∷◌, [], sym, subst}
use Rattle.slicer_top.specs.Chops.{IsChopText}
use Rattle.slicer_top.specs.Criteria.{IsCriteriaFault, StartAt}
use Rattle.slicer_top.specs.Slices.{IsOneText}
use Rattle.slicer_top.proofs.CriteriaLaws.{first_of_two_without, second_of_two_without}
use Rattle.slicer_top.proofs.ChopLaws.{two_written}
use Rattle.slicer_top.proofs.Making.{passed}
use Rattle.slicer_top.proofs.chops.chop_text_at.Goals as goal

pub returns-in_err-first : goal.returns-in_err-first
returns-in_err-first c =
    let p = c.args.engine.now in
    let lines = c.args.from ∷ c.args.to ∷ [] in
    passed (λ texts. StartAt p lines × IsOneText (IsChopText p c.args.from c.args.to) texts.items) (IsCriteriaFault p lines) c.in_err-first.field-0.0 c.from_residual.result c.from_residual.ensures.1
    (subst (IsCriteriaFault p lines) (sym c.in_err-first.ensures.0) (first_of_two_without p c.args.from c.args.to c.in_err-first.ensures.1))

pub returns-in_err-second : goal.returns-in_err-second
returns-in_err-second c =
    let p = c.args.engine.now in
    let lines = c.args.from ∷ c.args.to ∷ [] in
    passed (λ texts. StartAt p lines × IsOneText (IsChopText p c.args.from c.args.to) texts.items) (IsCriteriaFault p lines) c.in_err-second.field-0.0 c.from_residual-in_err-second.result c.from_residual-in_err-second.ensures.1
    (subst (IsCriteriaFault p lines) (sym c.in_err-second.ensures.0) (second_of_two_without p c.args.from c.args.to c.in_ok-first.ensures.1 c.in_err-second.ensures.1))

pub returns : goal.returns
returns c =
    two_written c.args.engine.now c.args.from c.args.to c.in_ok-first.first.line c.in_ok-second.second.line c.in_ok-texts.texts.items c.in_ok-first.ensures.0 c.in_ok-second.ensures.0
    c.in_ok-first.ensures.1 c.in_ok-second.ensures.1 c.in_ok-texts.ensures
