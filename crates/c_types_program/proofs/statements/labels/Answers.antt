use Rattle.c_language.specs.ProgramOf.{label_tree}
use Rattle.c_types_base.specs.Tables.{scope_of}
use Rattle.c_types_program.proofs.Turns.{made_end}
use Rattle.c_types_program.proofs.statements.labels.Goals as goal

pub returns : goal.returns
returns c =
    made_end (label_tree c.args.tables.now.raw.now (scope_of c.args.tables.now) c.args.t) c.args.list.now c.loop-label.label-index c.loop-label.made c.loop-label-test.false c.loop-label.invariant
