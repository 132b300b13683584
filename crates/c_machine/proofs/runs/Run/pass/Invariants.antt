use Rattle.std.proofs.Common.{◌≡◌, length, drop}
use Rattle.std.specs.Vec.Iter.{into_iter_items, into_iter_len}
use Rattle.c_tree.specs.declared.program.Program.{Program}
use Rattle.c_meaning.specs.Steps.{Point}
use Rattle.c_machine.specs.Runs.{IsAt, PassedOn}
use Rattle.c_machine.specs.States.{all_passed}
use Rattle.c_machine.specs.Traces.{Before}
use Rattle.c_machine.proofs.runs.Run.pass.Given as goal

abbrev pub invariant-loop-value : goal.invariant-loop-value
invariant-loop-value l = record {
  passed :
      (p : Program) (before : Before) (x : Point)
      → IsAt p before l.initial.self x
      → PassedOn p before l.self x (λ s. all_passed p (drop l.next l.params) (into_iter_items l.value-iterator) s ≡ all_passed p l.params (into_iter_items l.initial.value-iterator) x.state);
  counted : into_iter_len l.value-iterator ≡ length (into_iter_items l.value-iterator);
}
