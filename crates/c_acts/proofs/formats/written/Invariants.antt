use Rattle.std.proofs.Common.{◌≡◌, ◌++◌, drop}
use Rattle.c_acts.proofs.FormatLemmas.{to_write}
use Rattle.c_acts.proofs.formats.written.Given as goal

abbrev pub invariant-loop-piece : goal.invariant-loop-piece
invariant-loop-piece l = l.output.items ++ to_write (drop l.piece-index l.pieces) l.left ≡ to_write l.pieces l.given
