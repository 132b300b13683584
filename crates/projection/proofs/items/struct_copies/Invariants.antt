use Rattle.std.proofs.Common.{◌≡◌, take}
use Rattle.projection.proofs.items.struct_copies.Given as goal

abbrev pub invariant-loop-structure : goal.invariant-loop-structure
invariant-loop-structure l = l.all ≡ take l.structure-index l.list
