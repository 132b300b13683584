use Rattle.std.proofs.Common.{◌≡◌, ◌++◌, map, take}
use Rattle.dep_model.specs.Doings.{body_doings}
use Rattle.mod_ref.specs.Own.{arms_doings}
use Rattle.points_to.specs.Moves.{told, storing}
use Rattle.points_to.proofs.moves.+statement.Given as goal

abbrev pub invariant-arms-loop-arm : goal.invariant-arms-loop-arm
invariant-arms-loop-arm l = map told l.moves.items ≡ map told l.initial.moves.items ++ storing l.effects l.f (arms_doings (take l.arm-index l.list))

abbrev pub invariant-statements-loop-child : goal.invariant-statements-loop-child
invariant-statements-loop-child l = map told l.moves.items ≡ map told l.initial.moves.items ++ storing l.effects l.f (body_doings (take l.child-index l.list))
