use Rattle.std.proofs.Common.{take}
use Rattle.c_meaning.specs.Values.{State, all_closed}
use Rattle.c_machine.specs.States.{IsState}
use Rattle.c_machine.proofs.states.State.close_each.Given as goal

abbrev pub invariant-loop-x : goal.invariant-loop-x
invariant-loop-x l = (s : State) → IsState l.initial.self s → IsState l.self (all_closed (take l.x-index l.variables) s)
