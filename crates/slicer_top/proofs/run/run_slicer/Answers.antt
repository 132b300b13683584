use Rattle.std.proofs.Common.{refl, sym, subst}
use Rattle.call_words.specs.Requests.{IsBounded, asked_by}
use Rattle.call_words.proofs.FormLaws.{words_bounded}
use Rattle.slicer_top.proofs.Promised.{asked_is, memory_promised, refused_for, usage_promised, written_for}
use Rattle.slicer_top.proofs.run.run_slicer.Goals as goal

pub returns-in-Err-Usage : goal.returns-in-Err-Usage
returns-in-Err-Usage g c =
    usage_promised c.args.words.now _ _ _ c.tell.result (record { shelf_stays = refl; shelf_faults = refl; shelf_fetches = refl; contents = refl; out_stays = refl; out_faults = refl })
    (c.in-Err-Usage.ensures.read c.in-Err-Usage.field-0-is) c.tell.ensures.told

pub returns-in-Err-NoMemory : goal.returns-in-Err-NoMemory
returns-in-Err-NoMemory g c =
    memory_promised c.args.words.now _ _ _ c.tell_no_memory.result (record { shelf_stays = refl; shelf_faults = refl; shelf_fetches = refl; contents = refl; out_stays = refl; out_faults = refl })
    c.tell_no_memory.ensures.told c.tell_no_memory.ensures.taken

pub texts_for-requires-clause-bounded : goal.texts_for-requires-clause-bounded
texts_for-requires-clause-bounded g c κs within =
    let read = c.in-Ok.ensures.read in
    subst IsBounded (sym (asked_is c.args.words.now _ read.asks_for)) (words_bounded c.args.words.now read.in_grammar)

pub returns-in-Ok-texts_for : goal.returns-in-Ok-texts_for
returns-in-Ok-texts_for g c =
    let read = c.in-Ok.ensures.read in
    written_for c.args.words.now _ _ _ c.write_texts.result (asked_by c.in-Ok.request) read.in_grammar (asked_is c.args.words.now _ read.asks_for)
    c.in-Ok-texts_for.texts.items c.as_slice.result.now c.as_slice.ensures.value c.in-Ok-texts_for.ensures.ok
    c.texts_for.ensures.contents c.texts_for.ensures.fetched c.texts_for.ensures.no_fault c.write_texts.ensures

pub returns : goal.returns
returns g c =
    let read = c.in-Ok.ensures.read in
    refused_for c.args.words.now _ _ _ c.report.result (asked_by c.in-Ok.request) read.in_grammar (asked_is c.args.words.now _ read.asks_for)
    c.in-Err.refusal c.in-Err.ensures.err c.report.ensures.told c.texts_for.ensures.contents c.texts_for.ensures.fetched refl refl
    c.texts_for.ensures.no_fault c.in-Err.ensures.missing c.report.ensures.taken
