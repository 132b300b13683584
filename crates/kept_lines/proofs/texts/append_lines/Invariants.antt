use Rattle.std.proofs.Common.{◌≡◌, ◌++◌, drop}
use Rattle.slice_engine.specs.Slice.{spaced}
use Rattle.kept_lines.proofs.texts.append_lines.Given as goal

abbrev pub invariant-loop-line : goal.invariant-loop-line
invariant-loop-line l = l.text ++ spaced (drop l.line-index l.lines) ≡ l.fn.text ++ spaced l.lines
