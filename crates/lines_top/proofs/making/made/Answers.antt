use Rattle.slicer_top.proofs.Making.{passed}
use Rattle.slicer_top.specs.Refusals.{of_graph}
use Rattle.lines_top.specs.Texts.{IsReason, IsWritten}
use Rattle.lines_top.proofs.Made.{engine_made, graph_shows}
use Rattle.lines_top.proofs.making.made.Goals as goal

pub returns-in_err-engine : goal.returns-in_err-engine
returns-in_err-engine g c = λ text reads.
    passed (IsWritten text c.args.lines.now) (IsReason text c.args.lines.now) (of_graph c.in_err-engine.field-0.0) c.from_residual.result c.from_residual.ensures.1
    (graph_shows text c.args.lines.now c.args.program reads c.in_err-engine.field-0.0 c.in_err-engine.ensures.above)

pub returns : goal.returns
returns g c = λ text reads.
    engine_made text c.args.lines.now c.args.program reads c.in_ok-engine.engine c.in_ok-engine.ensures.program c.in_ok-engine.ensures.within c.lines_at.result c.lines_at.ensures
