use Rattle.std.proofs.Common.{◌≡◌, ◌-◌, length}
use Rattle.c_lex.specs.Scanning.{join_len, passed}
use Rattle.c_lex.proofs.place.behind_joins.Given as goal

abbrev pub invariant-loop-turn : goal.invariant-loop-turn
invariant-loop-turn l = passed join_len (length l.bytes) l.bytes ≡ passed join_len (length l.bytes - l._turn) l.rest
