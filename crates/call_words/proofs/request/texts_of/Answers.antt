use Rattle.std.proofs.Common.{◌∙◌, sym, subst}
use Rattle.std.specs.Str.{IsUtf8}
use Rattle.call_words.proofs.Places.{not_all_utf8, text_pushed, utf8_pushed}
use Rattle.call_words.proofs.request.texts_of.Goals as goal

pub returns-in_default : goal.returns-in_default
returns-in_default c =
    not_all_utf8 c.args.words.now c.loop-word.word-index c.word-item.result c.loop-word-test.true
    (λ is. c.in_default.ensures.cases.0 (subst IsUtf8 (sym (c.bytes.ensures ∙ c.word-item.is)) is))

pub loop-word-preserved : goal.loop-word-preserved
loop-word-preserved c = record {
  found = text_pushed c.loop-word.found.items c.push.new.self.items c.in-Ok.text c.args.words.now c.loop-word.word-index c.word-item.result c.loop-word-test.true
      c.in_ok-push.ensures.items (c.in-Ok.ensures.cases.0 ∙ c.bytes.ensures ∙ c.word-item.is) c.loop-word.invariant.found;
  utf8 = utf8_pushed c.args.words.now c.loop-word.word-index c.word-item.result c.loop-word-test.true
      (subst IsUtf8 (c.bytes.ensures ∙ c.word-item.is) c.in-Ok.ensures.cases.1) c.loop-word.invariant.utf8;
}
