use Rattle.std.proofs.Common.{◌≡◌, ◌∙◌, IfErr, IfOk, Option, Some, None, ap, refl, subst, sym}
use Rattle.std.specs.Prelude.{IsSomeAnd}
use Rattle.std.proofs.lemmas.Result.{IfErr-weaker}
use Rattle.edge_io.specs.Contents.{Lacks}
use Rattle.c_language.specs.Words.{Bytes}
use Rattle.call_words.specs.Requests.{asked_by, file_in}
use Rattle.slicer_top.specs.Files.{AreFetchesOf, IsGiven, name_of, text_made}
use Rattle.slicer_top.specs.Reports.{IsTextFault}
use Rattle.slicer_top.specs.declared.refusal.Refusal.TheVariants.{Unreadable}
use Rattle.slicer_top.proofs.Files.{memory_alone_is_fault, memory_alone_is_told}
use Rattle.slicer_top.proofs.slicing.text_for.Goals as goal

-- ---- a file has the text

pub returns-in-Some-clause-fetched : goal.returns-in-Some-clause-fetched
returns-in-Some-clause-fetched g c =
    let named : Some c.in-Some.name.now ≡ file_in (asked_by c.args.request.now) = sym (ap name_of c.in-Some.is) ∙ c.file.ensures in
    subst (λ o. AreFetchesOf o (g.F.Shelf.fetches c.args.shelf.now) (g.F.Shelf.fetches c.text_in.new.shelf)) named c.text_in.ensures.fetched

pub returns-in-Some-clause-ok : goal.returns-in-Some-clause-ok
returns-in-Some-clause-ok g c =
    let named : Some c.in-Some.name.now ≡ file_in (asked_by c.args.request.now) = sym (ap name_of c.in-Some.is) ∙ c.file.ensures in
    subst (λ o. IfOk c.text_in.result (λ text. IsGiven (g.F.Shelf.contents c.args.shelf.now) (text_made (asked_by c.args.request.now)) o text.items)) named c.text_in.ensures.ok

pub returns-in-Some-clause-err : goal.returns-in-Some-clause-err
returns-in-Some-clause-err g c =
    let named : Some c.in-Some.name.now ≡ file_in (asked_by c.args.request.now) = sym (ap name_of c.in-Some.is) ∙ c.file.ensures in
    subst
    (λ o. IfErr c.text_in.result (IsTextFault (g.F.Shelf.contents c.args.shelf.now) (g.F.Shelf.faults c.args.shelf.now) (g.F.Shelf.faults c.text_in.new.shelf)
    (g.F.Shelf.long_files c.args.shelf.now) (g.F.Shelf.long_files c.text_in.new.shelf) o))
    named c.text_in.ensures.err

pub returns-in-Some-clause-missing : goal.returns-in-Some-clause-missing
returns-in-Some-clause-missing g c = λ never.
    let named : Some c.in-Some.name.now ≡ file_in (asked_by c.args.request.now) = sym (ap name_of c.in-Some.is) ∙ c.file.ensures in
    subst (λ o. IfErr c.text_in.result (λ refusal. refusal ≡ Unreadable → IsSomeAnd o (Lacks (g.F.Shelf.contents c.args.shelf.now)))) named (c.text_in.ensures.missing never)

-- ---- it is made

pub returns-in-None-clause-fetched : goal.returns-in-None-clause-fetched
returns-in-None-clause-fetched g c =
    let named : ◌≡◌ {A = Option Bytes} None (file_in (asked_by c.args.request.now)) = sym (ap name_of c.in-None.is) ∙ c.file.ensures in
    subst (λ o. AreFetchesOf o (g.F.Shelf.fetches c.args.shelf.now) (g.F.Shelf.fetches c.args.shelf.now)) named refl

pub returns-in-None-clause-ok : goal.returns-in-None-clause-ok
returns-in-None-clause-ok g c =
    let named : ◌≡◌ {A = Option Bytes} None (file_in (asked_by c.args.request.now)) = sym (ap name_of c.in-None.is) ∙ c.file.ensures in
    subst (λ o. IfOk c.made_text.result (λ text. IsGiven (g.F.Shelf.contents c.args.shelf.now) (text_made (asked_by c.args.request.now)) o text.items)) named c.made_text.ensures.ok

pub returns-in-None-clause-err : goal.returns-in-None-clause-err
returns-in-None-clause-err g c =
    IfErr-weaker c.made_text.result _ _
    (memory_alone_is_fault (g.F.Shelf.contents c.args.shelf.now) (g.F.Shelf.faults c.args.shelf.now) (g.F.Shelf.faults c.args.shelf.now)
    (g.F.Shelf.long_files c.args.shelf.now) (g.F.Shelf.long_files c.args.shelf.now) (file_in (asked_by c.args.request.now)))
    c.made_text.ensures.err

pub returns-in-None-clause-missing : goal.returns-in-None-clause-missing
returns-in-None-clause-missing g c = λ never.
    IfErr-weaker c.made_text.result _ _ (memory_alone_is_told (g.F.Shelf.contents c.args.shelf.now) (file_in (asked_by c.args.request.now))) c.made_text.ensures.err
