use Rattle.std.proofs.Common.{◌≡◌, ℕ, ◌++◌, drop}
use Rattle.completion.specs.Numbered.{stated_at, functions_with}
use Rattle.completion.proofs.statements.Statements.find.Given as goal

abbrev pub invariant-loop-function : goal.invariant-loop-function
invariant-loop-function l = record {
  rows_are : (i : ℕ) → stated_at l.rows.items i ++ functions_with l.number i (drop l.function-index l.program.functions) ≡ functions_with 0 i l.program.functions;
  number_is : l.number ≡ l.function-index;
}
