use Rattle.std.proofs.Common.{take}
use Rattle.c_meaning.specs.Activations.{executable, globals_in, all_begun, blank}
use Rattle.c_memory.specs.GlobalStates.{IsAt}
use Rattle.c_memory.proofs.globals.Globals.new.Given as goal

abbrev pub invariant-loop-item : goal.invariant-loop-item
invariant-loop-item l =
    IsAt l.globals.memory l.globals.frame (all_begun (executable l.p) (globals_in (take l.item-index l.item-items)) (blank (executable l.p)))
