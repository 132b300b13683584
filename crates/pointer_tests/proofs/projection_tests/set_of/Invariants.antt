use Rattle.std.proofs.Common.{◌≡◌, length}
use Rattle.pointer_tests.proofs.projection_tests.set_of.Given as goal

abbrev pub invariant-loop-v : goal.invariant-loop-v
invariant-loop-v g l = length l.set ≡ length l.initial.set
