use Rattle.std.proofs.Common.{refl}
use Rattle.c_types_program.proofs.ItemForms.{structure_passes}
use Rattle.c_types_program.proofs.walk.Walk.structure.Goals as goal

pub returns-clause-passes : goal.returns-clause-passes
returns-clause-passes c =
    structure_passes c.args.self.now c.requires.right c.args.line c.args.tag.now c.args.list.now (record c.args.self.now { tables = c.complete.new.self }) c.in_ok-complete.ensures refl
