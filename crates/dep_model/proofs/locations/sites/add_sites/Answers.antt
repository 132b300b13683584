use Rattle.std.proofs.Common.{◌++◌}
use Rattle.dep_model.specs.LocationObjects.{function_sites}
use Rattle.dep_model.proofs.LocationSites.{function_turn}
use Rattle.dep_model.proofs.locations.sites.add_sites.Goals as goal

pub loop-function-preserved : goal.loop-function-preserved
loop-function-preserved c =
    function_turn c.args.p.now c.as_slice-function-items.result.now c.loop-function.function-index c.function-item.result c.as_slice.result.now
    c.loop-function.objects.items c.add_in_body.new.objects.items (c.args.objects.now.items ++ function_sites c.args.p.now c.args.p.now.functions)
    c.as_slice-function-items.ensures c.loop-function-test.true c.function-item.is c.as_slice.ensures c.loop-function.invariant c.in_ok-add_in_body.ensures
