use Rattle.std.proofs.Common.{◌≡◌, rules, sym, subst}
use Rattle.kept_lines.specs.Lines.{lines_of}
use Rattle.slicer_top.proofs.Making.{passed}
use Rattle.lines_top.specs.Texts.{CanBeAsked, IsLinesFault}
use Rattle.lines_top.proofs.FirstLines.{all_first, first_without, none_first, one_more_first}
use Rattle.lines_top.proofs.criteria.criteria_of.Goals as goal

pub loop-line-preserved : goal.loop-line-preserved
loop-line-preserved c =
    one_more_first c.args.engine.now c.args.lines.now c.loop-line.line-index c.loop-line.found.items c.push.new.self.items c.in_ok-criterion.criterion
    c.loop-line.invariant c.loop-line-test.true (search rules) (search rules) (search rules)

pub returns-in_err-criterion : goal.returns-in_err-criterion
returns-in_err-criterion c =
    passed (λ found. CanBeAsked c.args.engine.now c.args.lines.now × (lines_of found.items ≡ c.args.lines.now)) (IsLinesFault c.args.engine.now c.args.lines.now) c.in_err-criterion.field-0.0 c.from_residual.result c.from_residual.ensures.1
    (subst (IsLinesFault c.args.engine.now c.args.lines.now) (sym c.in_err-criterion.ensures.0)
    (first_without c.args.engine.now c.args.lines.now c.loop-line.line-index c.loop-line.found.items _ c.loop-line.invariant (search rules) c.loop-line-test.true (search rules) c.in_err-criterion.ensures.1))

pub returns : goal.returns
returns c = all_first c.args.engine.now c.args.lines.now c.loop-line.line-index c.loop-line.found.items c.loop-line.invariant (search rules) c.loop-line-test.false
