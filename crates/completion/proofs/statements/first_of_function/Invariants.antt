use Rattle.std.proofs.Common.{◌≡◌, drop, map}
use Rattle.completion.specs.Numbered.{first_of, stated}
use Rattle.completion.proofs.statements.first_of_function.Given as goal

abbrev pub invariant-loop-owned : goal.invariant-loop-owned
invariant-loop-owned l = first_of l.function (map stated (drop l.owned-index l.row)) ≡ first_of l.function (map stated l.row)
