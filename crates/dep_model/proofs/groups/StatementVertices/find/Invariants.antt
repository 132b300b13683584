use Rattle.std.proofs.Common.{◌≡◌, ℕ, ◌++◌, drop}
use Rattle.dep_model.specs.FunctionVertices.{passes, numbers, numbers_from}
use Rattle.dep_model.specs.Groups.{is_at, row, rows_from}
use Rattle.dep_model.proofs.groups.StatementVertices.find.Given as goal

abbrev pub invariant-loop-number : goal.invariant-loop-number
invariant-loop-number l = (i : ℕ) → row (rows_from l.first l.rows) i ++ numbers_from (passes (is_at l.actuals i) l.function) l.number (drop l.number l.vertices) ≡ numbers (is_at l.actuals i) l.function l.vertices
