use Rattle.std.proofs.Common.{◌≡◌, ◌++◌, take}
use Rattle.dep_model.specs.Doings.{body_doings}
use Rattle.vertex_layout.specs.OwnStatements.{own_doings, done, arms_doings}
use Rattle.vertex_layout.proofs.statements.+statement.Given as goal

abbrev pub invariant-arms-loop-child : goal.invariant-arms-loop-child
invariant-arms-loop-child l = own_doings l.found.items ≡ own_doings l.initial.found.items ++ done (arms_doings (take l.child-index l.list))

abbrev pub invariant-statements-loop-child : goal.invariant-statements-loop-child
invariant-statements-loop-child l = own_doings l.found.items ≡ own_doings l.initial.found.items ++ done (body_doings (take l.child-index l.list))
