use Rattle.std.proofs.Common.{ap, subst, ◌∙◌}
use Rattle.kept_lines.specs.Lines.{IsLinesText, lines_of}
use Rattle.lines_top.proofs.making.lines_at.Goals as goal

pub returns : goal.returns
returns c = (
  c.in_ok-criteria.ensures.0,
  subst (λ ls. IsLinesText c.args.engine.now ls c.in_ok-text.text) (ap lines_of c.as_slice.ensures.value ∙ c.in_ok-criteria.ensures.1) c.in_ok-text.ensures,
)
