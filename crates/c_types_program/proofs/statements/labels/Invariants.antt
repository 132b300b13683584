use Rattle.std.proofs.Common.{◌≡◌, ◌++◌, map, drop, Some}
use Rattle.c_language.specs.ProgramOf.{label_tree}
use Rattle.c_types_base.specs.Tables.{scope_of}
use Rattle.c_types_program.proofs.statements.labels.Given as goal

abbrev pub invariant-loop-label : goal.invariant-loop-label
invariant-loop-label l =
    map Some l.made ++ map (label_tree l.tables.raw.now (scope_of l.tables) l.t) (drop l.label-index l.list) ≡ map (label_tree l.tables.raw.now (scope_of l.tables) l.t) l.list
