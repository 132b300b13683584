use Rattle.std.proofs.Common.{◌≡◌, take}
use Rattle.slicer_top.specs.SliceNumbers as spec
use Rattle.slicer_top.proofs.numbers.size_of.Given as goal

abbrev pub invariant-loop-v : goal.invariant-loop-v
invariant-loop-v l = l.size ≡ spec.size_of (take l.v l.set)
