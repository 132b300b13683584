use Rattle.std.proofs.Common.{◌∙◌, ◌+◌, ap, sym, drop, get_or}
use Rattle.c_language.specs.Tokens.{name_goes_on}
use Rattle.c_lex.proofs.Loops.{run_stops, run_goes, run_ends, name_anywhere}
use Rattle.c_lex.proofs.word.name_len.Goals as goal

pub returns-then-not-is_word_byte-clause-value : goal.returns-then-not-is_word_byte-clause-value
returns-then-not-is_word_byte-clause-value c = sym (run_stops name_goes_on 0 c.args.bytes.now c.loop-i.i c.loop-i-test.true (sym c.is_word_byte.ensures ∙ c.if-not-is_word_byte.true) c.loop-i.invariant)

pub loop-i-preserved : goal.loop-i-preserved
loop-i-preserved c =
    run_goes name_goes_on 0 c.args.bytes.now c.loop-i.i c.loop-i-test.true (sym c.is_word_byte.ensures ∙ c.if-not-is_word_byte.false) c.loop-i.invariant
    ∙ ap (λ n. (c.loop-i.i + 1) + n) (name_anywhere (get_or c.args.bytes.now c.loop-i.i 0) 0 (drop (c.loop-i.i + 1) c.args.bytes.now))

pub returns-clause-value : goal.returns-clause-value
returns-clause-value c = sym (run_ends name_goes_on 0 c.args.bytes.now c.loop-i.i c.loop-i-test.false c.loop-i.auto.i-end c.loop-i.invariant)
