use Rattle.std.proofs.Common.{◌≡◌, ℕ, ◌++◌, drop}
use Rattle.completion.specs.Rows.{row}
use Rattle.completion.specs.NameRules.{formals_from}
use Rattle.completion.proofs.formals.formals_of.Given as goal

abbrev pub invariant-loop-vertex : goal.invariant-loop-vertex
invariant-loop-vertex l = record {
  rows_are : (f : ℕ) → row l.rows.items f ++ formals_from f l.number (drop l.vertex-index l.vertices) ≡ formals_from f 0 l.vertices;
  number_is : l.number ≡ l.vertex-index;
}
