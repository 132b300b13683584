use Rattle.std.proofs.Common.{None}
use Rattle.c_tree.specs.declared.program.Program.{Program}
use Rattle.c_meaning.specs.Steps.{Point}
use Rattle.c_machine.specs.Runs.{IsAt, GoneOn}
use Rattle.c_machine.specs.Sizes.{run_size}
use Rattle.c_machine.specs.Traces.{Before}
use Rattle.c_machine.proofs.runs.Run.settle.Given as goal

abbrev pub invariant-pieces : goal.invariant-pieces
invariant-pieces l =
    (p : Program) (before : Before) (x : Point) → IsAt p before l.initial.self x → GoneOn p before None l.self x

abbrev pub decreases-pieces : goal.decreases-pieces
decreases-pieces l = run_size l.self
