use Rattle.std.proofs.Common.{◌≡◌, ◌+◌, drop}
use Rattle.c_lex.specs.Numbers.{digits_len}
use Rattle.c_lex.proofs.number.digits_len.Given as goal

abbrev pub invariant-loop-i : goal.invariant-loop-i
invariant-loop-i l = digits_len l.base l.bytes ≡ l.i + digits_len l.base (drop l.i l.bytes)
