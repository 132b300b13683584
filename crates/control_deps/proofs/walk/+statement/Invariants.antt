use Rattle.std.proofs.Common.{◌≡◌, ◌++◌, take}
use Rattle.dep_model.specs.Groups.{row}
use Rattle.control_deps.specs.Walk.{walks, arm_walks}
use Rattle.control_deps.proofs.walk.+statement.Given as goal

abbrev pub invariant-arms-loop-i : goal.invariant-arms-loop-i
invariant-arms-loop-i l =
    l.out.items ≡ l.initial.out.items ++ arm_walks (row l.own) (take l.i l.taken) (take l.i l.list) l.controllers

abbrev pub invariant-statements-loop-child : goal.invariant-statements-loop-child
invariant-statements-loop-child l =
    l.out.items ≡ l.initial.out.items ++ walks (row l.own) (take l.child-index l.list) l.controllers
