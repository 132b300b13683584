use Rattle.std.proofs.Common.{inl, inr, refl, sym, subst}
use Rattle.call_words.specs.Requests.{IsBounded, asked_by}
use Rattle.call_words.proofs.FormLaws.{words_bounded}
use Rattle.slicer_top.specs.Lines.{out_of_memory}
use Rattle.slicer_top.specs.declared.status.Status.TheVariants.{NoMemory, Usage}
use Rattle.slicer_top.proofs.Promised.{asked_is}
use Rattle.lines_top.specs.Promises.{IsDue, usage_line}
use Rattle.lines_top.specs.Words.{as_slice}
use Rattle.lines_top.proofs.Promised.{line_promised, put_promised, refused_promised}
use Rattle.lines_top.proofs.SliceWords.{for_slices}
use Rattle.lines_top.proofs.run.run_lines.Goals as goal

pub returns-in-Err-Usage : goal.returns-in-Err-Usage
returns-in-Err-Usage g c =
    line_promised c.args.words.now _ _ _ c.tell.result Usage usage_line tt (IsDue.usage (c.in-Err-Usage.ensures c.in-Err-Usage.field-0-is))
    (record { out_stays = refl; contents = refl; fetched = inl refl; unasked = λ others. refl }) c.tell.ensures.told

pub returns-in-Err-NoMemory : goal.returns-in-Err-NoMemory
returns-in-Err-NoMemory g c =
    line_promised c.args.words.now _ _ _ c.tell_no_memory.result NoMemory out_of_memory tt IsDue.no_memory
    (record { out_stays = refl; contents = refl; fetched = inl refl; unasked = λ others. refl }) c.tell_no_memory.ensures.told

pub text_for-requires-clause-slices : goal.text_for-requires-clause-slices
text_for-requires-clause-slices g c κs within = for_slices c.args.words.now (asked_by c.in-Ok.request) c.in-Ok.ensures.asks_for

pub text_for-requires-clause-bounded : goal.text_for-requires-clause-bounded
text_for-requires-clause-bounded g c κs within =
    let words = as_slice c.args.words.now in
    subst IsBounded (sym (asked_is words (asked_by c.in-Ok.request) c.in-Ok.ensures.asks_for)) (words_bounded words c.in-Ok.ensures.in_grammar)

pub returns-in-Ok-text_for : goal.returns-in-Ok-text_for
returns-in-Ok-text_for g c =
    put_promised c.args.words.now _ _ _ c.put.result (asked_by c.in-Ok.request) c.in-Ok-text_for.text c.in-Ok.ensures.asks_for c.in-Ok.ensures.in_grammar
    c.in-Ok-text_for.ensures.ok c.text_for.ensures.contents c.text_for.ensures.fetched c.put.ensures

pub returns : goal.returns
returns g c =
    refused_promised c.args.words.now _ _ _ c.report.result (asked_by c.in-Ok.request) c.in-Err.refusal c.in-Ok.ensures.asks_for c.in-Ok.ensures.in_grammar c.in-Err.ensures.err
    (record { out_stays = refl; contents = c.text_for.ensures.contents; fetched = inr c.text_for.ensures.fetched; unasked = λ others. absurd (others c.in-Ok.ensures.in_grammar) })
    c.report.ensures.told
