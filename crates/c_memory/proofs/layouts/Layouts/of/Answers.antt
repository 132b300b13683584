use Rattle.std.proofs.Common.{ap, ◌∙◌, map}
use Rattle.c_tree.specs.declared.program.Member.{Member}
use Rattle.c_tree.specs.declared.program.StructDef.{StructDef}
use Rattle.c_language.specs.TreeTypes.{shape_of}
use Rattle.c_language.proofs.Turns.{map_turn}
use Rattle.c_memory.proofs.CountLemmas.{counts_turn}
use Rattle.c_memory.proofs.layouts.Layouts.of.Goals as goal

pub loop-structure-preserved : goal.loop-structure-preserved
loop-structure-preserved c = record {
  is = map_turn (λ (d : StructDef). map (λ (m : Member). shape_of m.shape) d.members) c.as_slice-structure-items.result.now c.loop-structure.structure-index
      c.structure-item.result c.loop-structure.members c.in_ok-types.types c.push-in-loop-structure.new.self c.loop-structure-test.true c.structure-item.is
      c.loop-structure.invariant.is (c.in_ok-types.ensures ∙ ap (map (λ (m : Member). shape_of m.shape)) c.as_slice.ensures) c.in_ok-push-2.ensures.ok;
  counted = counts_turn c.loop-structure.members c.loop-structure.counts.items c.as_slice-in-loop-structure.result.now c.in_ok-types.types
      c.as_slice-in-loop-structure-2.result.now c.member_count-count.result c.push.new.self.items c.push-in-loop-structure.new.self c.loop-structure.invariant.counted
      c.as_slice-in-loop-structure.ensures.value c.as_slice-in-loop-structure-2.ensures c.member_count-count.ensures c.in_ok-push.ensures.items c.in_ok-push-2.ensures.ok;
}
