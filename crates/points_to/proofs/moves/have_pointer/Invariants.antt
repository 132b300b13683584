use Rattle.std.proofs.Common.{◌≡◌, false, take}
use Rattle.std.specs.List.{list_any}
use Rattle.points_to.specs.Moves.{is_pointer_value}
use Rattle.points_to.proofs.moves.have_pointer.Given as goal

abbrev pub invariant-loop-value : goal.invariant-loop-value
invariant-loop-value l = list_any (is_pointer_value l.effects) (take l.value-index l.values) ≡ false
