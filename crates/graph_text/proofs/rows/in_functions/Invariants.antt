use Rattle.std.proofs.Common.{◌≡◌, ◌++◌, take}
use Rattle.graph_text.specs.RowWalk.{function_rows}
use Rattle.graph_text.proofs.rows.in_functions.Given as goal

abbrev pub invariant-loop-function : goal.invariant-loop-function
invariant-loop-function l =
    l.rows.items ≡ l.initial.rows.items ++ function_rows l.p (take l.function-index l.list)
