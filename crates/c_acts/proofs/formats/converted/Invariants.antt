use Rattle.std.proofs.Common.{◌≡◌, ◌++◌, drop}
use Rattle.c_acts.proofs.FormatLemmas.{to_convert}
use Rattle.c_acts.proofs.formats.converted.Given as goal

abbrev pub invariant-loop-piece : goal.invariant-loop-piece
invariant-loop-piece l = l.numbers.items ++ to_convert (drop l.piece-index l.pieces) l.left ≡ to_convert l.pieces l.given
