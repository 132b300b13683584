use Rattle.std.proofs.Common.{◌≡◌, ◌++◌, map, take}
use Rattle.c_language.specs.Words.{expr_words}
use Rattle.c_print.specs.Lists.{behind_commas}
use Rattle.c_print.proofs.expressions.behind_commas.Given as goal

abbrev pub invariant-loop-child : goal.invariant-loop-child
invariant-loop-child l = l.out ≡ l.initial.out ++ behind_commas (map (expr_words l.program) (take l.child-index l.all))
