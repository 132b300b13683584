use Rattle.call_words.specs.Requests.{asked_by}
use Rattle.slicer_top.specs.Reports.{IsReason}
use Rattle.slicer_top.proofs.Making.{made_err, made_ok}
use Rattle.slicer_top.proofs.ReaderLaws.{well_formed}
use Rattle.slicer_top.proofs.Reasons.{passes_on, reading_shows}
use Rattle.slicer_top.proofs.slicing.texts_of.Goals as goal

pub made-requires-clause-well_formed : goal.made-requires-clause-well_formed
made-requires-clause-well_formed g c κs within = well_formed c.args.text.now c.in_ok-program.program c.in_ok-program.ensures.right

pub made-requires-clause-last : goal.made-requires-clause-last
made-requires-clause-last g c κs within = c.requires.last c.in_ok-program.program c.in_ok-program.ensures.right

pub returns-in_err-program-clause-err : goal.returns-in_err-program-clause-err
returns-in_err-program-clause-err g c =
    passes_on (IsReason c.args.text.now (asked_by c.args.request.now) c.args.input.now) _ c.from_residual.result c.from_residual.ensures.1
    (reading_shows c.args.text.now c.args.input.now (asked_by c.args.request.now) c.in_err-program.field-0.0 c.in_err-program.ensures.right)

pub returns-clause-ok : goal.returns-clause-ok
returns-clause-ok g c =
    made_ok c.in_ok-program.program c.args.input.now (λ t. t.items) (asked_by c.args.request.now) c.args.text.now c.made.result c.in_ok-program.ensures.right c.made.ensures

pub returns-clause-err : goal.returns-clause-err
returns-clause-err g c =
    made_err c.in_ok-program.program c.args.input.now (λ t. t.items) (asked_by c.args.request.now) c.args.text.now c.made.result c.in_ok-program.ensures.right c.made.ensures
