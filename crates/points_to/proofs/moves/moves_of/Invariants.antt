use Rattle.std.proofs.Common.{◌≡◌, map}
use Rattle.points_to.specs.Moves.{told, storing_below}
use Rattle.points_to.proofs.moves.moves_of.Given as goal

abbrev pub invariant-loop-f : goal.invariant-loop-f
invariant-loop-f l = map told l.moves.items ≡ storing_below l.p l.f
