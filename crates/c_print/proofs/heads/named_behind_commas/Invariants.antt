use Rattle.std.proofs.Common.{◌≡◌, ◌++◌, take}
use Rattle.c_language.specs.Layout.{named_params}
use Rattle.c_print.specs.Lists.{behind_commas}
use Rattle.c_print.proofs.heads.named_behind_commas.Given as goal

abbrev pub invariant-loop-at : goal.invariant-loop-at
invariant-loop-at l = l.out ≡ l.initial.out ++ behind_commas (named_params l.program (take l.at l.names) (take l.at l.vars))
