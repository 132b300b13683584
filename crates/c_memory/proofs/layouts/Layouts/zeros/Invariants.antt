use Rattle.std.proofs.Common.{◌≡◌, ◌++◌, map}
use Rattle.c_meaning.specs.Cells.{cells}
use Rattle.c_memory.specs.Zeros.{zero_cell, all_zeros, all_turns}
use Rattle.c_memory.proofs.layouts.Layouts.zeros.Given as goal

abbrev pub invariant-loop-next : goal.invariant-loop-next
invariant-loop-next l = l.made.items ++ all_zeros l.self l.waiting.items ≡ map zero_cell (cells l.self l.shape)

abbrev pub decreases-loop-next : goal.decreases-loop-next
decreases-loop-next l = all_turns l.self l.waiting.items
