use Rattle.std.proofs.Common.{sym, arith}
use Rattle.c_print.proofs.NotedLines.{noted_below, noted_one, noted_past}
use Rattle.c_print.proofs.lines.note.Goals as goal

pub returns-then-id-first : goal.returns-then-id-first
returns-then-id-first c = sym (noted_below c.args.first c.args.id c.args.line c.args.lines.now c.if-id-first.true)

pub returns-then-at-lines : goal.returns-then-at-lines
returns-then-at-lines c = noted_one c.args.lines.now c.args.first c.args.id c.args.line (omega (arith, c.if-id-first.false))

pub returns-else-at-lines : goal.returns-else-at-lines
returns-else-at-lines c = noted_past c.args.lines.now c.args.first c.args.id c.args.line (omega (arith, c.if-id-first.false)) (omega (arith, c.if-at-lines.false))
