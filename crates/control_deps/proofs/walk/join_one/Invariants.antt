use Rattle.std.proofs.Common.{◌≡◌, ◌++◌, take}
use Rattle.control_deps.specs.Walk.{from_all}
use Rattle.control_deps.proofs.walk.join_one.Given as goal

abbrev pub invariant-loop-from : goal.invariant-loop-from
invariant-loop-from l = l.out.items ≡ l.initial.out.items ++ from_all (take l.from-index l.controllers) l.to
