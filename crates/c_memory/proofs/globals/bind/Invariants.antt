use Rattle.std.proofs.Common.{◌≡◌, ◌+◌, ◌-◌, vec_len}
use Rattle.c_memory.specs.Scenes.{frame_of}
use Rattle.c_memory.proofs.globals.bind.Given as goal

abbrev pub invariant-loop-frame : goal.invariant-loop-frame
invariant-loop-frame l = frame_of l.frame.items ≡ frame_of l.initial.frame.items

abbrev pub decreases-loop-frame : goal.decreases-loop-frame
decreases-loop-frame l = l.at + 1 - vec_len l.frame
