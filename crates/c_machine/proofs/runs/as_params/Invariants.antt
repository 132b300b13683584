use Rattle.std.proofs.Common.{◌≡◌, ◌+◌, length, drop}
use Rattle.std.specs.Vec.Iter.{into_iter_items, into_iter_len}
use Rattle.c_machine.specs.States.{as_parameters}
use Rattle.c_machine.proofs.CallLemmas.{with_parameters}
use Rattle.c_machine.proofs.runs.as_params.Given as goal

abbrev pub invariant-loop-value : goal.invariant-loop-value
invariant-loop-value l = record {
  collected : with_parameters l.program l.passed.items (drop l.next l.params) (into_iter_items l.value-iterator) ≡ as_parameters l.program l.params (into_iter_items l.initial.value-iterator);
  even : l.next + length (into_iter_items l.value-iterator) ≡ length l.params;
  counted : into_iter_len l.value-iterator ≡ length (into_iter_items l.value-iterator);
}
