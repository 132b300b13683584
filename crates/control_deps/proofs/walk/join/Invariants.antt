use Rattle.std.proofs.Common.{◌≡◌, ◌++◌, take}
use Rattle.control_deps.specs.Walk.{joined}
use Rattle.control_deps.proofs.walk.join.Given as goal

abbrev pub invariant-loop-to : goal.invariant-loop-to
invariant-loop-to l = l.out.items ≡ l.initial.out.items ++ joined l.controllers (take l.to-index l.controlled)
