use Rattle.std.proofs.Common.{refl, arith}
use Rattle.slicer_top.proofs.criteria.criterion_at.Goals as goal

pub returns-then-line-from : goal.returns-then-line-from
returns-then-line-from c = (
  refl,
  λ starts.
      let before = c.last_line.ensures.latest _ starts in
      omega (arith, before, c.from.ensures, c.if-line-from.true),
)
