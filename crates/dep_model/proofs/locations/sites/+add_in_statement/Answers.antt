use Rattle.std.proofs.Common.{◌++◌}
use Rattle.dep_model.specs.LocationObjects.{body_sites}
use Rattle.dep_model.proofs.LocationSites.{body_turn, for_sites}
use Rattle.dep_model.proofs.locations.sites.+add_in_statement.Goals as goal

pub add_in_body-loop-child-preserved : goal.add_in_body-loop-child-preserved
add_in_body-loop-child-preserved t c =
    body_turn c.args.p.now c.args.list.now c.loop-child.child-index c.child-item.result c.loop-child.objects.items c.add_in_statement.new.objects.items
    (c.args.objects.now.items ++ body_sites c.args.p.now c.args.list.now) c.loop-child-test.true c.child-item.is c.loop-child.invariant c.in_ok-add_in_statement.ensures

pub add_in_statement-returns-in_ok-add_in_body-in-For : goal.add_in_statement-returns-in_ok-add_in_body-in-For
add_in_statement-returns-in_ok-add_in_body-in-For t c =
    for_sites c.args.p.now c.args.statement.now c.in-For.id c.in-For.line c.in-For.init c.in-For.test c.in-For.step c.in-For.body c.as_slice-in-For.result.now
    c.args.objects.now.items c.add_in_part.new.objects.items c.add_in_part-in-For.new.objects.items c.add_in_body-in-For.new.objects.items
    c.in-For.is c.as_slice-in-For.ensures c.in_ok-add_in_part-in-For.ensures c.in_ok-add_in_part-in-For-2.ensures c.in_ok-add_in_body-in-For.ensures
