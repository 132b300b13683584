use Rattle.std.proofs.Common.{All, ◌-◌}
use Rattle.reaching_defs.specs.Stretches.{IsPairAmong}
use Rattle.reaching_defs.proofs.tests.push_pairs.Given as goal

abbrev pub invariant-loop-from : goal.invariant-loop-from
invariant-loop-from l = All (IsPairAmong l.first (6 - l.first)) l.pairs
