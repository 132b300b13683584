use Rattle.std.proofs.Common.{◌≡◌, ◌++◌, drop, map, Some}
use Rattle.c_language.specs.DeclaredTypes.{struct_texts}
use Rattle.c_language.specs.ProgramOf.{struct_tree}
use Rattle.c_types_program.proofs.structs.struct_trees.Given as goal

abbrev pub invariant-loop-item : goal.invariant-loop-item
invariant-loop-item l = map Some l.made ++ map (struct_tree l.defined.raw.now) (struct_texts (drop l.item-index l.items)) ≡ map (struct_tree l.defined.raw.now) (struct_texts l.items)
