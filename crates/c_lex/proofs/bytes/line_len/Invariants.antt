use Rattle.std.proofs.Common.{◌≡◌, ◌+◌, drop}
use Rattle.c_lex.specs.Scanning.{line_len}
use Rattle.c_lex.proofs.bytes.line_len.Given as goal

abbrev pub invariant-loop-i : goal.invariant-loop-i
invariant-loop-i l = line_len l.bytes ≡ l.i + line_len (drop l.i l.bytes)
