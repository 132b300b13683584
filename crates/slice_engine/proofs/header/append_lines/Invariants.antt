use Rattle.std.proofs.Common.{◌≡◌, ◌++◌, drop}
use Rattle.slice_engine.specs.Slice as spec
use Rattle.slice_engine.proofs.header.append_lines.Given as goal

abbrev pub invariant-loop-line : goal.invariant-loop-line
invariant-loop-line l = l.text ++ spec.spaced (drop l.line-index l.lines) ≡ l.fn.text ++ spec.spaced l.lines
