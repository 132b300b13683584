use Rattle.c_language.proofs.Turns.{each_turn_at}
use Rattle.control_deps.proofs.WalkLemmas.{each_controller}
use Rattle.control_deps.proofs.walk.join_one.Goals as goal

pub loop-from-preserved : goal.loop-from-preserved
loop-from-preserved c =
    each_turn_at (each_controller c.args.to) c.args.controllers.now c.loop-from.from-index 0 c.args.out.now.items c.loop-from.out.items c.push_pair.new.out.items
    c.loop-from-test.true c.loop-from.invariant c.in_ok-push_pair.ensures
