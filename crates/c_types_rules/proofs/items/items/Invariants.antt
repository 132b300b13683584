use Rattle.std.proofs.Common.{◌≡◌, drop, take, length, vec_len}
use Rattle.c_language.specs.DeclaredTypes.{struct_texts}
use Rattle.c_types_base.specs.Stretches.{of_items}
use Rattle.c_types_rules.proofs.WalkSteps.{Passed}
use Rattle.c_types_rules.proofs.items.items.Given as goal

abbrev pub invariant-loop-child : goal.invariant-loop-child
invariant-loop-child l = record {
  passed : Passed (of_items l.list) (of_items (drop l.child-index l.list)) l.initial.tables l.tables;
  counted : vec_len l.tables.structs ≡ length (struct_texts (take l.child-index l.list));
  outside : l.tables.outer ≡ 0;
}
