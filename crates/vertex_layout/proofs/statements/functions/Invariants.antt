use Rattle.std.proofs.Common.{◌≡◌, ◌++◌, take}
use Rattle.dep_model.specs.Doings.{functions_doings}
use Rattle.vertex_layout.specs.OwnStatements.{own_doings, done}
use Rattle.vertex_layout.proofs.statements.functions.Given as goal

abbrev pub invariant-loop-function : goal.invariant-loop-function
invariant-loop-function l = own_doings l.found.items ≡ own_doings l.initial.found.items ++ done (functions_doings (take l.function-index l.list))
