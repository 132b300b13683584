use Rattle.std.proofs.Common.{◌≡◌, ◌+◌, drop, option_map}
use Rattle.c_lex.specs.Scanning.{first_place}
use Rattle.c_lex.specs.Sought.{stands}
use Rattle.c_lex.proofs.place.first_place.Given as goal

abbrev pub invariant-loop-i : goal.invariant-loop-i
invariant-loop-i l = first_place (stands l.sought) l.bytes ≡ option_map (λ n. l.i + n) (first_place (stands l.sought) (drop l.i l.bytes))
