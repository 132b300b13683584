use Rattle.std.proofs.Common.{◌≡◌, map, take}
use Rattle.c_tree.specs.declared.program.Member.{Member}
use Rattle.c_language.specs.TreeTypes.{shape_of}
use Rattle.c_memory.proofs.layouts.member_types.Given as goal

abbrev pub invariant-loop-member : goal.invariant-loop-member
invariant-loop-member l = l.types ≡ map (λ (m : Member). shape_of m.shape) (take l.member-index l.members)
