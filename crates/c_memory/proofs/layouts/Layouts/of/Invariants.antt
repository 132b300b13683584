use Rattle.std.proofs.Common.{◌≡◌, map, take, []}
use Rattle.c_tree.specs.declared.program.Member.{Member}
use Rattle.c_tree.specs.declared.program.StructDef.{StructDef}
use Rattle.c_language.specs.TreeTypes.{shape_of}
use Rattle.c_meaning.specs.Cells.{cells_behind}
use Rattle.c_memory.specs.Counts.{AreCounts}
use Rattle.c_memory.proofs.layouts.Layouts.of.Given as goal

abbrev pub invariant-loop-structure : goal.invariant-loop-structure
invariant-loop-structure l = record {
  is : l.members ≡ map (λ (d : StructDef). map (λ (m : Member). shape_of m.shape) d.members) (take l.structure-index l.structure-items);
  counted : AreCounts l.counts.items (cells_behind [] l.members);
}
