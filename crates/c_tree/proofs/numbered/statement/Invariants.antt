use Rattle.std.proofs.Common.{take}
use Rattle.c_tree.specs.Numbered.{Lacks, function_starts}
use Rattle.c_tree.proofs.numbered.statement.Given as goal

abbrev pub invariant-loop-function : goal.invariant-loop-function
invariant-loop-function l = Lacks l.id (function_starts (take l.function-index l.function-items))
