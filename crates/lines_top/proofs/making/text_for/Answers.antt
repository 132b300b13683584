use Rattle.std.proofs.Common.{[], subst}
use Rattle.call_words.specs.Requests.{asked_by, file_in, lines_in}
use Rattle.slicer_top.specs.Files.{IsGiven}
use Rattle.slicer_top.specs.Reports.{IsTextFault}
use Rattle.lines_top.proofs.Made.{caused_by_file, caused_of, same_made, written_of}
use Rattle.lines_top.proofs.making.text_for.Goals as goal

pub returns-in_err-text-clause-err : goal.returns-in_err-text-clause-err
returns-in_err-text-clause-err g c =
    let told = g.F.Shelf.contents c.args.shelf.now in
    let fault =
    subst
    (λ o. IsTextFault told (g.F.Shelf.faults c.args.shelf.now) (g.F.Shelf.faults c.text_in.new.shelf)
    (g.F.Shelf.long_files c.args.shelf.now) (g.F.Shelf.long_files c.text_in.new.shelf) o c.in_err-text.field-0.0)
    c.named-workers.ensures.file c.in_err-text.ensures.err in
    caused_by_file told _ _ _ _ (file_in (asked_by c.args.request.now)) (lines_in (asked_by c.args.request.now)) c.in_err-text.field-0.0
    c.from_residual.result c.from_residual.ensures.1 fault

pub returns-clause-ok : goal.returns-clause-ok
returns-clause-ok g c =
    let told = g.F.Shelf.contents c.args.shelf.now in
    let text = c.in_ok-text.text.items in
    let lines = lines_in (asked_by c.args.request.now) in
    written_of told (file_in (asked_by c.args.request.now)) lines text (subst (λ o. IsGiven told [] o text) c.named-workers.ensures.file c.in_ok-text.ensures.ok) c.in_ok-text.ensures.short
    c.text_of.result (same_made text _ lines _ c.text_of.result c.as_slice.ensures.value c.named-workers.ensures.lines c.text_of.ensures)

pub returns-clause-err : goal.returns-clause-err
returns-clause-err g c =
    let told = g.F.Shelf.contents c.args.shelf.now in
    let text = c.in_ok-text.text.items in
    let lines = lines_in (asked_by c.args.request.now) in
    caused_of told (file_in (asked_by c.args.request.now)) lines text (subst (λ o. IsGiven told [] o text) c.named-workers.ensures.file c.in_ok-text.ensures.ok) c.in_ok-text.ensures.short
    _ _ _ _ c.text_of.result (same_made text _ lines _ c.text_of.result c.as_slice.ensures.value c.named-workers.ensures.lines c.text_of.ensures)
