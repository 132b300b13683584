use Rattle.std.proofs.Common.{◌≡◌, length}
use Rattle.analysis_tests.proofs.printed_tests.are_printed.Given as goal

abbrev pub invariant-loop-number : goal.invariant-loop-number
invariant-loop-number g l = length l.set ≡ l.size
