use Rattle.std.proofs.Common.{◌≡◌, ◌+◌, drop}
use Rattle.c_language.specs.Tokens.{number_goes_on}
use Rattle.c_lex.specs.Scanning.{run_len}
use Rattle.c_lex.proofs.word.number_len.Given as goal

abbrev pub invariant-loop-i : goal.invariant-loop-i
invariant-loop-i l = run_len number_goes_on 0 l.bytes ≡ l.i + run_len number_goes_on l.before (drop l.i l.bytes)
