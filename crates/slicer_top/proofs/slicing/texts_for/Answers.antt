use Rattle.std.proofs.Common.{subst, sym}
use Rattle.std.proofs.lemmas.Result.{IfErr-weaker, IfOk-weaker}
use Rattle.call_words.specs.Requests.{asked_by}
use Rattle.slicer_top.specs.Files.{name_of}
use Rattle.slicer_top.specs.Reports.{IsCause, IsMissing}
use Rattle.slicer_top.proofs.CriteriaLaws.{reason_cause, reason_missing, written_in_files}
use Rattle.slicer_top.specs.Slices.{HasLastOf}
use Rattle.slicer_top.proofs.Big.{generated_last}
use Rattle.slicer_top.proofs.Files.{Came, both_came, fetched_all, fetched_first, input_refused, refused_missing, text_caused, text_missing}
use Rattle.slicer_top.proofs.Reasons.{passes_on}
use Rattle.slicer_top.proofs.slicing.texts_for.Goals as goal

-- ---- the text didn't come

pub returns-in_err-text-clause-fetched : goal.returns-in_err-text-clause-fetched
returns-in_err-text-clause-fetched g c = fetched_first (asked_by c.args.request.now) _ _ c.text_for.ensures.fetched

pub returns-in_err-text-clause-err : goal.returns-in_err-text-clause-err
returns-in_err-text-clause-err g c =
    let told = g.F.Shelf.contents c.args.shelf.now in
    let asked = asked_by c.args.request.now in
    passes_on (IsCause told asked _ _ _ _) c.in_err-text.field-0.0 c.from_residual.result c.from_residual.ensures.1
    (text_caused told _ _ _ _ asked c.in_err-text.field-0.0 c.in_err-text.ensures.err)

pub returns-in_err-text-clause-missing : goal.returns-in_err-text-clause-missing
returns-in_err-text-clause-missing g c = λ never.
    let told = g.F.Shelf.contents c.args.shelf.now in
    let asked = asked_by c.args.request.now in
    passes_on (IsMissing told asked) c.in_err-text.field-0.0 c.from_residual.result c.from_residual.ensures.1
    (text_missing told _ _ _ _ asked c.in_err-text.field-0.0 c.in_err-text.ensures.err (c.in_err-text.ensures.missing never))

-- ---- the input didn't come

pub returns-in_err-input-clause-fetched : goal.returns-in_err-input-clause-fetched
returns-in_err-input-clause-fetched g c =
    fetched_all (g.F.Shelf.contents c.args.shelf.now) (g.F.Shelf.contents c.text_for.new.shelf) c.text_for.ensures.contents (asked_by c.args.request.now) (name_of c.input.result) c.input.ensures
    _ _ _ c.text_for.ensures.fetched c.input_for.ensures.fetched

pub returns-in_err-input-clause-err : goal.returns-in_err-input-clause-err
returns-in_err-input-clause-err g c =
    let told = g.F.Shelf.contents c.args.shelf.now in
    let asked = asked_by c.args.request.now in
    let f = g.F.Shelf.faults c.args.shelf.now in
    let m = g.F.Shelf.faults c.text_for.new.shelf in
    let f' = g.F.Shelf.faults c.input_for.new.shelf in
    let l = g.F.Shelf.long_files c.args.shelf.now in
    let n = g.F.Shelf.long_files c.text_for.new.shelf in
    let l' = g.F.Shelf.long_files c.input_for.new.shelf in
    passes_on (IsCause told asked f f' l l') c.in_err-input.field-0.0 c.from_residual-in_err-input.result c.from_residual-in_err-input.ensures.1
    (input_refused told (g.F.Shelf.contents c.text_for.new.shelf) c.text_for.ensures.contents asked (name_of c.input.result) c.input.ensures f m f' l n l' c.text_for.ensures.faults c.text_for.ensures.long_files
    c.in_ok-text.text.items c.in_ok-text.ensures.ok c.in_ok-text.ensures.short c.in_err-input.field-0.0 c.in_err-input.ensures.err)

pub returns-in_err-input-clause-missing : goal.returns-in_err-input-clause-missing
returns-in_err-input-clause-missing g c = λ never.
    let told = g.F.Shelf.contents c.args.shelf.now in
    let asked = asked_by c.args.request.now in
    passes_on (IsMissing told asked) c.in_err-input.field-0.0 c.from_residual-in_err-input.result c.from_residual-in_err-input.ensures.1
    (refused_missing told (g.F.Shelf.contents c.text_for.new.shelf) c.text_for.ensures.contents asked (name_of c.input.result) c.input.ensures
    (g.F.Shelf.faults c.text_for.new.shelf) (g.F.Shelf.faults c.input_for.new.shelf) (g.F.Shelf.long_files c.text_for.new.shelf) (g.F.Shelf.long_files c.input_for.new.shelf) c.in_err-input.field-0.0 c.in_err-input.ensures.err
    (c.in_err-input.ensures.missing (c.text_for.ensures.never_fails never)))

-- ---- both files came

pub texts_of-requires-clause-last : goal.texts_of-requires-clause-last
texts_of-requires-clause-last g c κs within =
    let asked = asked_by c.args.request.now in
    subst (λ t. HasLastOf t asked) (sym c.as_slice.ensures.value)
    (generated_last (g.F.Shelf.contents c.args.shelf.now) asked c.in_ok-text.text.items c.requires.bounded c.in_ok-text.ensures.ok)

pub returns-clause-fetched : goal.returns-clause-fetched
returns-clause-fetched g c =
    fetched_all (g.F.Shelf.contents c.args.shelf.now) (g.F.Shelf.contents c.text_for.new.shelf) c.text_for.ensures.contents (asked_by c.args.request.now) (name_of c.input.result) c.input.ensures
    _ _ _ c.text_for.ensures.fetched c.input_for.ensures.fetched

pub returns-clause-ok : goal.returns-clause-ok
returns-clause-ok g c =
    let told = g.F.Shelf.contents c.args.shelf.now in
    let asked = asked_by c.args.request.now in
    let came : Came told asked c.as_slice.result.now c.as_slice-2.result.now =
    both_came told (g.F.Shelf.contents c.text_for.new.shelf) c.text_for.ensures.contents asked (name_of c.input.result) c.input.ensures c.in_ok-text.text.items c.in_ok-input.input.items
    c.as_slice.result.now c.as_slice-2.result.now c.as_slice.ensures.value c.as_slice-2.ensures.value c.in_ok-text.ensures.ok c.in_ok-text.ensures.short c.in_ok-input.ensures.ok c.in_ok-input.ensures.short in
    IfOk-weaker c.texts_of.result _ _ (λ texts are. written_in_files told asked 0 0 0 0 c.as_slice.result.now c.as_slice-2.result.now came texts.items are) c.texts_of.ensures.ok

pub returns-clause-err : goal.returns-clause-err
returns-clause-err g c =
    let told = g.F.Shelf.contents c.args.shelf.now in
    let asked = asked_by c.args.request.now in
    let came : Came told asked c.as_slice.result.now c.as_slice-2.result.now =
    both_came told (g.F.Shelf.contents c.text_for.new.shelf) c.text_for.ensures.contents asked (name_of c.input.result) c.input.ensures c.in_ok-text.text.items c.in_ok-input.input.items
    c.as_slice.result.now c.as_slice-2.result.now c.as_slice.ensures.value c.as_slice-2.ensures.value c.in_ok-text.ensures.ok c.in_ok-text.ensures.short c.in_ok-input.ensures.ok c.in_ok-input.ensures.short in
    IfErr-weaker c.texts_of.result _ _
    (λ refusal reason.
    reason_cause told asked (g.F.Shelf.faults c.args.shelf.now) (g.F.Shelf.faults c.input_for.new.shelf) (g.F.Shelf.long_files c.args.shelf.now) (g.F.Shelf.long_files c.input_for.new.shelf)
    c.as_slice.result.now c.as_slice-2.result.now came refusal reason)
    c.texts_of.ensures.err

pub returns-clause-missing : goal.returns-clause-missing
returns-clause-missing g c = λ never.
    IfErr-weaker c.texts_of.result _ _
    (λ refusal reason. reason_missing (g.F.Shelf.contents c.args.shelf.now) c.as_slice.result.now c.as_slice-2.result.now (asked_by c.args.request.now) refusal reason) c.texts_of.ensures.err
