use Rattle.dep_model.specs.Groups.{is_at}
use Rattle.dep_model.proofs.Stretching.{IsLeast}
use Rattle.dep_model.proofs.groups.least_statement.Given as goal

abbrev pub invariant-loop-number : goal.invariant-loop-number
invariant-loop-number l = IsLeast l.vertices l.initial.number (is_at l.actuals) l.number l.least
