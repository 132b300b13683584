use Rattle.std.proofs.Common.{◌≡◌, ◌++◌, map, take}
use Rattle.c_language.specs.Layout.{var_words}
use Rattle.c_print.specs.Lists.{behind_commas}
use Rattle.c_print.proofs.heads.variables_behind_commas.Given as goal

abbrev pub invariant-loop-var : goal.invariant-loop-var
invariant-loop-var l = l.out ≡ l.initial.out ++ behind_commas (map (var_words l.program) (take l.var-index l.vars))
