use Rattle.std.proofs.Common.{rules, sym, subst, ◌∙◌}
use Rattle.run_text.specs.Lines.{StartsOn}
use Rattle.slicer_top.specs.Criteria.{AreFound, IsCriteriaFault}
use Rattle.slicer_top.proofs.CriteriaLaws.{all_passed, none_passed, one_more_passed, passed_without}
use Rattle.slicer_top.proofs.Making.{passed}
use Rattle.slicer_top.proofs.criteria.lines_with_starts.Goals as goal

pub loop-line-preserved : goal.loop-line-preserved
loop-line-preserved c =
    one_more_passed c.args.program.now c.args.lines.now c.loop-line.line-index c.loop-line.found.items c.push.new.self.items c.in_ok-number.number
    c.loop-line.invariant c.loop-line-test.true (search rules) (search rules)
    (subst (StartsOn _) (c.as_slice.ensures.value ∙ c.in_ok-starts.ensures) (search rules))

pub returns-in_err-number : goal.returns-in_err-number
returns-in_err-number c =
    passed (λ found. AreFound c.args.program.now c.args.lines.now found.items) (IsCriteriaFault c.args.program.now c.args.lines.now) c.in_err-number.field-0.0 c.from_residual-in_err-number.result c.from_residual-in_err-number.ensures.1
    (subst (IsCriteriaFault c.args.program.now c.args.lines.now) (sym c.in_err-number.ensures.0)
    (passed_without c.args.program.now c.args.lines.now c.loop-line.line-index c.loop-line.found.items _ c.loop-line.invariant (search rules) c.loop-line-test.true (search rules)
    (λ start. c.in_err-number.ensures.1 (subst (StartsOn _) (sym (c.as_slice.ensures.value ∙ c.in_ok-starts.ensures)) start))))

pub returns : goal.returns
returns c = all_passed c.args.program.now c.args.lines.now c.loop-line.line-index c.loop-line.found.items c.loop-line.invariant (search rules) c.loop-line-test.false
