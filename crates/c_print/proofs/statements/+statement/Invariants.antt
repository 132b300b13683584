use Rattle.std.proofs.Common.{◌≡◌, ◌++◌, map, take}
use Rattle.c_language.specs.Layout.{body_lines, arms_lines, arm_laid}
use Rattle.c_print.proofs.statements.+statement.Given as goal

abbrev pub invariant-arms-loop-child : goal.invariant-arms-loop-child
invariant-arms-loop-child l = record {
  lines : l.out ≡ l.initial.out ++ arms_lines (map (arm_laid l.program) (take l.child-index l.all)) l.initial.margin;
  level : l.margin ≡ l.initial.margin;
}

abbrev pub invariant-statements-loop-child : goal.invariant-statements-loop-child
invariant-statements-loop-child l = record {
  lines : l.out ≡ l.initial.out ++ body_lines l.program l.initial.margin (take l.child-index l.all);
  level : l.margin ≡ l.initial.margin;
}
