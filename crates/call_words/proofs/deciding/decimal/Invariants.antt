use Rattle.std.proofs.Common.{◌≡◌, ◌^◌, ◌<◌, take}
use Rattle.call_words.specs.Grammar.{decimal_from}
use Rattle.call_words.proofs.deciding.decimal.Given as goal

abbrev pub invariant-loop-byte : goal.invariant-loop-byte
invariant-loop-byte l = record {
  value : l.value ≡ decimal_from 0 (take l.byte-index l.digits);
  bound : l.value < 10 ^ l.byte-index;
}
