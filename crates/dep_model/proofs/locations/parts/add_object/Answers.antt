use Rattle.std.proofs.Common.{◌^◌, ◌++◌, arith}
use Rattle.dep_model.specs.LocationObjects.{object_locations}
use Rattle.dep_model.proofs.LocationParts.{list_turn, inner_few}
use Rattle.dep_model.proofs.locations.parts.add_object.Goals as goal

pub add_parts-requires-clause-few : goal.add_parts-requires-clause-few
add_parts-requires-clause-few c =
    inner_few c.args.p.now c.args.object.now.root c.loop-next.waiting.items c.pop.new.self.items c.in-Some.next (2 ^ 32) c.in-Some.ensures.items c.loop-next.invariant.few

pub loop-next-smaller : goal.loop-next-smaller
loop-next-smaller c =
    let turn = list_turn c.args.p.now c.args.object.now.root c.loop-next.waiting.items c.pop.new.self.items c.add_parts.new.waiting.items c.in-Some.next
    c.loop-next.list.items c.push-in-Some.new.self.items (c.args.list.now.items ++ object_locations c.args.p.now c.args.object.now) c.in_ok-from_slice.field-0 c.as_slice.result.now
    c.in-Some.ensures.items c.in_ok-from_slice.ensures c.as_slice.ensures c.in_ok-push-2.ensures.items (c.in_ok-add_parts.ensures c.args.object.now.root) c.loop-next.invariant.is in
    turn.fewer

pub loop-next-preserved : goal.loop-next-preserved
loop-next-preserved c =
    let turn = list_turn c.args.p.now c.args.object.now.root c.loop-next.waiting.items c.pop.new.self.items c.add_parts.new.waiting.items c.in-Some.next
    c.loop-next.list.items c.push-in-Some.new.self.items (c.args.list.now.items ++ object_locations c.args.p.now c.args.object.now) c.in_ok-from_slice.field-0 c.as_slice.result.now
    c.in-Some.ensures.items c.in_ok-from_slice.ensures c.as_slice.ensures c.in_ok-push-2.ensures.items (c.in_ok-add_parts.ensures c.args.object.now.root) c.loop-next.invariant.is in
    record {
      is = turn.is;
      few = omega (arith, turn.fewer, c.loop-next.invariant.few);
    }
