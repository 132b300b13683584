use Rattle.std.proofs.Common.{drop}
use Rattle.c_types_checks.specs.Stands.{stand_of}
use Rattle.c_types_base.specs.Stretches.{of_statements, of_arms}
use Rattle.c_types_rules.proofs.WalkSteps.{Passed}
use Rattle.c_types_rules.proofs.walk.+statement.Given as goal

abbrev pub invariant-arms-loop-arm : goal.invariant-arms-loop-arm
invariant-arms-loop-arm l = Passed (of_arms l.list) (of_arms (drop l.arm-index l.list)) l.initial.tables l.tables

abbrev pub invariant-statements-loop-child : goal.invariant-statements-loop-child
invariant-statements-loop-child l = Passed (of_statements (stand_of l.stand) l.list) (of_statements (stand_of l.stand) (drop l.child-index l.list)) l.initial.tables l.tables
