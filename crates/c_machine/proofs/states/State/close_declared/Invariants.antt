use Rattle.std.proofs.Common.{take}
use Rattle.c_language.specs.Code.{declared_in}
use Rattle.c_meaning.specs.Values.{State, all_closed}
use Rattle.c_machine.specs.Rests.{parts}
use Rattle.c_machine.specs.States.{IsState}
use Rattle.c_machine.proofs.states.State.close_declared.Given as goal

abbrev pub invariant-loop-statement : goal.invariant-loop-statement
invariant-loop-statement l =
    (s : State) → IsState l.initial.self s → IsState l.self (all_closed (declared_in (parts (take l.statement-index l.statements))) s)
