use Rattle.c_language.proofs.Turns.{each_turn_at}
use Rattle.control_deps.proofs.WalkLemmas.{each_controlled}
use Rattle.control_deps.proofs.walk.join.Goals as goal

pub loop-to-preserved : goal.loop-to-preserved
loop-to-preserved c =
    each_turn_at (each_controlled c.args.controllers.now) c.args.controlled.now c.loop-to.to-index 0 c.args.out.now.items c.loop-to.out.items c.join_one.new.out.items
    c.loop-to-test.true c.loop-to.invariant c.in_ok-join_one.ensures
