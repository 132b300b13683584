use Rattle.std.proofs.Common.{◌≡◌, ◌∙◌, ap, sym, subst, drop}
use Rattle.std.specs.Prelude.{List, All}
use Rattle.std.specs.Str.{IsUtf8}
use Rattle.call_words.specs.Sorting.{Bytes, sorted}
use Rattle.call_words.specs.Grammar.{Row, IsInForm, IsSortedInForm, command_of}
use Rattle.call_words.specs.Requests.{IsRead}
use Rattle.call_words.specs.Clap.{HasMatches}
use Rattle.call_words.specs.Forms.{texts, sorted_view, view}
use Rattle.call_words.proofs.FormLaws.{is_in_form, is_read, can_ask, can_ask_found, nothing_rules_out, words_utf8}
use Rattle.call_words.proofs.request.read_words.Goals as goal

pub returns-in_default : goal.returns-in_default
returns-in_default c = record { read = λ _ g. nothing_rules_out _ _ _ c.in_default.not-Some c.in_ok-texts.ensures (words_utf8 c.args.words.now g) }

pub read-requires-clause-form : goal.read-requires-clause-form
read-requires-clause-form c =
    let here : (texts c.in-Some.texts.items ≡ c.args.words.now) × All IsUtf8 c.args.words.now = rw c.in-Some.is at c.in_ok-texts.ensures in
    let tail = ap (drop 1) (sym c.in-Some-split_first.ensures.cases.0 ∙ c.as_slice.ensures.value ∙ sym c.as_slice-2.ensures.value) in
    is_in_form (view c.form_of-form.result) c.as_slice-2.result.now c.in-Some-split_first.rest.now c.args.words.now (sorted_view c.in_ok-sorted.sorted)
    (ap texts c.as_slice-2.ensures.value ∙ here.0) here.1 tail c.in_ok-sorted.ensures (c.is_in_form.ensures.0 c.if-not-is_in_form.false)

pub request_of-requires : goal.request_of-requires
request_of-requires c =
    let command = c.in-Some-command_named.command in
    let s = sorted (texts c.as_slice-2.result.now) in
    let here : (texts c.in-Some.texts.items ≡ c.args.words.now) × All IsUtf8 c.args.words.now = rw c.in-Some.is at c.in_ok-texts.ensures in
    let tail = ap (drop 1) (sym c.in-Some-split_first.ensures.cases.0 ∙ c.as_slice.ensures.value ∙ sym c.as_slice-2.ensures.value) in
    let form = is_in_form (view c.form_of-form.result) c.as_slice-2.result.now c.in-Some-split_first.rest.now c.args.words.now (sorted_view c.in_ok-sorted.sorted)
    (ap texts c.as_slice-2.ensures.value ∙ here.0) here.1 tail c.in_ok-sorted.ensures (c.is_in_form.ensures.0 c.if-not-is_in_form.false) in
    can_ask_found command s c.in-Ok.matches (subst (λ (r : Row). HasMatches r s c.in-Ok.matches) c.form_of-form.ensures c.in-Ok.ensures.found)
    (can_ask command s (subst (λ (r : Row). IsSortedInForm r s) c.form_of-form.ensures form.sorted))

pub returns-in-Ok : goal.returns-in-Ok
returns-in-Ok c =
    let all = c.as_slice-2.result.now in
    let request = c.in_ok-request_of-in-Ok.field-0 in
    let here : (texts c.in-Some.texts.items ≡ c.args.words.now) × All IsUtf8 c.args.words.now = rw c.in-Some.is at c.in_ok-texts.ensures in
    let whole = sym c.in-Some-split_first.ensures.cases.0 ∙ c.as_slice.ensures.value ∙ sym c.as_slice-2.ensures.value in
    let same = ap texts c.as_slice-2.ensures.value ∙ here.0 in
    let form = is_in_form (view c.form_of-form.result) all c.in-Some-split_first.rest.now c.args.words.now (sorted_view c.in_ok-sorted.sorted)
    same here.1 (ap (drop 1) whole) c.in_ok-sorted.ensures (c.is_in_form.ensures.0 c.if-not-is_in_form.false) in
    record {
      read = subst (λ (words : List Bytes). IsRead words request) same (is_read (texts all) c.in-Some-command_named.command c.in-Ok.matches request
          (c.in-Some-command_named.ensures ∙ ap (λ xs. command_of (texts xs)) whole)
          (subst (λ (r : Row). IsInForm r (texts all)) c.form_of-form.ensures form)
          (subst (λ (r : Row). HasMatches r (sorted (texts all)) c.in-Ok.matches) c.form_of-form.ensures c.in-Ok.ensures.found)
          c.in_ok-request_of-in-Ok.ensures);
    }
