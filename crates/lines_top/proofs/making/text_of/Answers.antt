use Rattle.slicer_top.proofs.Making.{passed}
use Rattle.slicer_top.proofs.ReaderLaws.{well_formed}
use Rattle.slicer_top.specs.Refusals.{of_reading}
use Rattle.lines_top.specs.Texts.{IsReason, IsWritten}
use Rattle.lines_top.proofs.Made.{reading_shows}
use Rattle.lines_top.proofs.making.text_of.Goals as goal

pub made-requires-clause-well_formed : goal.made-requires-clause-well_formed
made-requires-clause-well_formed g c κs within = well_formed c.args.text.now c.in_ok-program.program c.in_ok-program.ensures.right

pub returns-in_err-program : goal.returns-in_err-program
returns-in_err-program g c =
    passed (IsWritten c.args.text.now c.args.lines.now) (IsReason c.args.text.now c.args.lines.now) (of_reading c.in_err-program.field-0.0) c.from_residual.result c.from_residual.ensures.1
    (reading_shows c.args.text.now c.args.lines.now c.in_err-program.field-0.0 c.in_err-program.ensures.right)

pub returns : goal.returns
returns g c = c.made.ensures c.args.text.now c.in_ok-program.ensures.right
