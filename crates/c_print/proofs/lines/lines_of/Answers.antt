use Rattle.std.proofs.Common.{ap, ◌∙◌, length, replicate, slice_get}
use Rattle.std.proofs.lemmas.List.{length-replicate}
use Rattle.c_print.specs.Lines.{layout_starts, line_of}
use Rattle.c_print.proofs.NotedLines.{all_noted, noted_length}
use Rattle.c_print.proofs.LineLaws.{starts_on_line}
use Rattle.c_print.proofs.lines.lines_of.Goals as goal

pub returns-clause-count : goal.returns-clause-count
returns-clause-count c =
    let n = c.args.program.now.statements in
    ap length c.in_ok-lines.ensures ∙ noted_length 0 (layout_starts c.args.program.now) (replicate n 0) ∙ length-replicate n 0

pub returns-clause-lines : goal.returns-clause-lines
returns-clause-lines c id h = ap (λ y. slice_get y id) c.in_ok-lines.ensures ∙ all_noted (layout_starts c.args.program.now) c.args.program.now.statements id h

pub returns-clause-starts : goal.returns-clause-starts
returns-clause-starts c plain id h place = (line_of c.args.program.now id, returns-clause-lines c id h, starts_on_line c.args.program.now id plain place)
