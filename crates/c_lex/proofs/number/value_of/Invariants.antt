use Rattle.std.proofs.Common.{◌≡◌, ◌≤◌, ◌^◌, drop}
use Rattle.c_lex.specs.Numbers.{capped}
use Rattle.c_lex.proofs.number.value_of.Given as goal

abbrev pub invariant-loop-digit : goal.invariant-loop-digit
invariant-loop-digit l = record {
  same : capped l.base 0 l.digits ≡ capped l.base l.value (drop l.digit-index l.digits);
  bound : l.value ≤ 2 ^ 70;
}
