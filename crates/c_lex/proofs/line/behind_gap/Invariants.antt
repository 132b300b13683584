use Rattle.std.proofs.Common.{◌≡◌, ◌≤◌, ◌-◌, length}
use Rattle.c_lex.specs.Scanning.{gap_len, passed}
use Rattle.c_lex.proofs.line.behind_gap.Given as goal

abbrev pub invariant-loop-turn : goal.invariant-loop-turn
invariant-loop-turn l = record {
  same : passed gap_len (length l.bytes) l.bytes ≡ passed gap_len (length l.bytes - l._turn) l.rest;
  within : length l.rest ≤ length l.bytes;
}
