use Rattle.std.proofs.Common.{◌≡◌, ◌++◌, take}
use Rattle.c_language.specs.Layout.{label_lines}
use Rattle.c_print.proofs.statements.labels.Given as goal

abbrev pub invariant-loop-label : goal.invariant-loop-label
invariant-loop-label l = l.out ≡ l.initial.out ++ label_lines l.program (take l.label-index l.all) l.margin
