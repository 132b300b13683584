use Rattle.dep_model.proofs.LocationCounts.{struct_step, sizes_end}
use Rattle.dep_model.proofs.locations.counts.struct_sizes.Goals as goal

pub loop-structure-preserved : goal.loop-structure-preserved
loop-structure-preserved c =
    struct_step c.args.p.now c.requires c.as_slice-structure-items.result.now c.loop-structure.sizes.items c.as_slice.result.now c.push.new.self.items
    c.loop-structure.structure-index c.structure-item.result c.in_ok-size.size c.as_slice-in-loop-structure.result.now
    c.as_slice-structure-items.ensures c.loop-structure.invariant c.loop-structure-test.true c.structure-item.is c.as_slice.ensures.value c.as_slice-in-loop-structure.ensures
    c.in_ok-size.ensures c.in_ok-push.ensures.items

pub returns : goal.returns
returns c =
    sizes_end c.args.p.now c.requires c.as_slice-structure-items.result.now c.loop-structure.sizes.items c.loop-structure.structure-index
    c.as_slice-structure-items.ensures c.loop-structure.auto.structure-index-end c.loop-structure-test.false c.loop-structure.invariant
