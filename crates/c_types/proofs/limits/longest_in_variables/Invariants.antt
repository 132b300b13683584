use Rattle.std.proofs.Common.{◌≡◌, take}
use Rattle.c_language.specs.Limits.{longest_in_variables}
use Rattle.c_types.proofs.limits.longest_in_variables.Given as goal

abbrev pub invariant-loop-var : goal.invariant-loop-var
invariant-loop-var l = l.best ≡ longest_in_variables (take l.var-index l.vars)
