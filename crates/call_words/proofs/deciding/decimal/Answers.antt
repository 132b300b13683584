use Rattle.std.proofs.Common.{get_or, arith, ap, sym, ◌∙◌, ◌+◌, ◌*◌, take}
use Rattle.std.specs.Char.{IsAsciiDigit}
use Rattle.call_words.specs.Grammar.{decimal_from}
use Rattle.call_words.proofs.Numbers.{decimal_from-next, bound-next}
use Rattle.call_words.proofs.deciding.decimal.Goals as goal

pub loop-byte-preserved : goal.loop-byte-preserved
loop-byte-preserved c =
    let digits = c.args.digits.now in
    let i = c.loop-byte.byte-index in
    let digit : IsAsciiDigit (get_or digits i 0) = c.requires.all_digits i 0 c.loop-byte-test.true in
    record {
      value = ap (λ n. 10 * n + c.from.result) c.loop-byte.invariant.value ∙ ap (λ d. 10 * decimal_from 0 (take i digits) + d) c.from.ensures
          ∙ sym (decimal_from-next digits i c.loop-byte-test.true);
      bound = bound-next c.loop-byte.value i c.from.result c.loop-byte.invariant.bound (omega (arith, digit, c.from.ensures));
    }
