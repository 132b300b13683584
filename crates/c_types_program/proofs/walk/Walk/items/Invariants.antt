use Rattle.std.proofs.Common.{◌≡◌, drop, take, length, vec_len}
use Rattle.c_language.specs.DeclaredTypes.{struct_texts}
use Rattle.c_types_base.specs.Tables.{scope_of}
use Rattle.c_types_program.proofs.ItemForms.{GoingItems}
use Rattle.c_types_program.proofs.walk.Walk.items.Given as goal

abbrev pub invariant-loop-item : goal.invariant-loop-item
invariant-loop-item l = record {
  going : GoingItems l.list (drop l.item-index l.list) l.initial.self.tables.raw.now (scope_of l.initial.self.tables) l.initial.self l.self l.made l.functions;
  counted : vec_len l.self.tables.structs ≡ length (struct_texts (take l.item-index l.list));
  outside : l.self.tables.outer ≡ 0;
}
