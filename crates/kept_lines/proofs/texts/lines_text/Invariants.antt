use Rattle.std.proofs.Common.{◌≡◌, take}
use Rattle.kept_lines.specs.Lines.{IsLinesText, lines_of}
use Rattle.kept_lines.proofs.texts.lines_text.Given as goal

abbrev pub invariant-loop-criterion : goal.invariant-loop-criterion
invariant-loop-criterion l = record {
  text : IsLinesText l.e (lines_of (take l.criterion-index l.list)) l.text;
  same : l.slicing ≡ l.e;
}
