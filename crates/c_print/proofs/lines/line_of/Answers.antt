use Rattle.std.proofs.Common.{ap, ◌∙◌, slice_index_or, subst, sym}
use Rattle.c_print.specs.StartsOn.{StartsOn}
use Rattle.c_print.proofs.LineLaws.{no_line, starts_on_line}
use Rattle.c_print.proofs.lines.line_of.Goals as goal

pub returns-clause-starts : goal.returns-clause-starts
returns-clause-starts c plain place =
    subst (StartsOn c.args.program.now c.args.id) (sym (ap (λ ls. slice_index_or ls 0 0) c.write_lines.ensures)) (starts_on_line c.args.program.now c.args.id plain place)

pub returns-clause-none : goal.returns-clause-none
returns-clause-none c plain nowhere = ap (λ ls. slice_index_or ls 0 0) c.write_lines.ensures ∙ no_line c.args.program.now c.args.id plain nowhere
