use Rattle.std.proofs.Common.{take}
use Rattle.forward_chop.specs.Pairs.{AreSpaces}
use Rattle.forward_chop.proofs.wanted.spaces_of.Given as goal

abbrev pub invariant-loop-range : goal.invariant-loop-range
invariant-loop-range l = AreSpaces (take l.range-index l.outs) l.places.items l.end
