use Rattle.std.proofs.Common.{drop}
use Rattle.c_types_base.specs.Stretches.{of_parameters}
use Rattle.c_types_rules.proofs.WalkSteps.{Passed}
use Rattle.c_types_rules.proofs.items.parameters.Given as goal

abbrev pub invariant-loop-child : goal.invariant-loop-child
invariant-loop-child l = Passed (of_parameters l.list) (of_parameters (drop l.child-index l.list)) l.initial.tables l.tables
