use Rattle.std.proofs.Common.{◌≡◌, ◌+◌, drop}
use Rattle.c_language.specs.Tokens.{name_goes_on}
use Rattle.c_lex.specs.Scanning.{run_len}
use Rattle.c_lex.proofs.word.name_len.Given as goal

abbrev pub invariant-loop-i : goal.invariant-loop-i
invariant-loop-i l = run_len name_goes_on 0 l.bytes ≡ l.i + run_len name_goes_on 0 (drop l.i l.bytes)
