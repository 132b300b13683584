use Rattle.std.proofs.Common.{◌≡◌, ◌++◌, drop}
use Rattle.slice_engine.specs.Header.{shown_lines}
use Rattle.slice_engine.proofs.header.criterion_lines.Given as goal

abbrev pub invariant-loop-i : goal.invariant-loop-i
invariant-loop-i l = l.found.items ++ shown_lines (drop l.i l.in_criterion) (drop l.i l.lines) ≡ shown_lines l.in_criterion l.lines
