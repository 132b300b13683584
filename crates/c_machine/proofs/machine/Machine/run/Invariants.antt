use Rattle.std.proofs.Common.{◌≡◌, false}
use Rattle.c_machine.specs.Progress.{after_acts}
use Rattle.c_machine.proofs.machine.Machine.run.Given as goal

abbrev pub invariant-loop-done : goal.invariant-loop-done
invariant-loop-done l = record {
  done : l.self ≡ after_acts l.initial.self l.done;
  sound : l.initial.self.failed ≡ false;
}
