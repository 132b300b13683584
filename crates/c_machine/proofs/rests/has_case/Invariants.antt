use Rattle.std.proofs.Common.{◌≡◌, drop}
use Rattle.c_language.specs.Code.{has_case}
use Rattle.c_machine.proofs.rests.has_case.Given as goal

abbrev pub invariant-loop-label : goal.invariant-loop-label
invariant-loop-label l = has_case l.value (drop l.label-index l.labels) ≡ has_case l.value l.labels
