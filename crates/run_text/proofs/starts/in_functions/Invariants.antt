use Rattle.std.proofs.Common.{◌≡◌, ◌++◌, take}
use Rattle.c_tree.specs.Numbered.{function_starts}
use Rattle.run_text.proofs.starts.in_functions.Given as goal

abbrev pub invariant-loop-function : goal.invariant-loop-function
invariant-loop-function l =
    l.found.items ≡ l.initial.found.items ++ function_starts (take l.function-index l.list)
