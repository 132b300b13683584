use Rattle.std.proofs.Common.{◌≡◌, drop}
use Rattle.c_language.specs.Code.{has_default}
use Rattle.c_machine.proofs.rests.has_default.Given as goal

abbrev pub invariant-loop-label : goal.invariant-loop-label
invariant-loop-label l = has_default (drop l.label-index l.labels) ≡ has_default l.labels
