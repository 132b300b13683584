use Rattle.std.proofs.Common.{◌≡◌, ◌++◌, drop}
use Rattle.bit_rows.specs.Sets.{has}
use Rattle.kept_lines.specs.Found.{lines_where}
use Rattle.kept_lines.proofs.lines.all_lines.Given as goal

abbrev pub invariant-loop-start : goal.invariant-loop-start
invariant-loop-start l = l.found.items ++ lines_where (has l.tests) (drop l.start-index l.starts) ≡ lines_where (has l.tests) l.starts
