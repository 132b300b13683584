use Rattle.std.proofs.Common.{drop}
use Rattle.c_types_base.specs.Tables.{scope_of}
use Rattle.c_types_base.specs.Stretches.{of_parameters}
use Rattle.c_types_program.proofs.Progress.{Along}
use Rattle.c_types_program.proofs.walk.Walk.parameters.Given as goal

abbrev pub invariant-loop-parameter : goal.invariant-loop-parameter
invariant-loop-parameter l =
    Along (of_parameters l.list) (of_parameters (drop l.parameter-index l.list)) l.initial.self.tables.raw.now (scope_of l.initial.self.tables) l.initial.self l.self
