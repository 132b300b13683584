use Rattle.std.proofs.Common.{sym, ◌∙◌}
use Rattle.std.proofs.lemmas.List.{at_drop_all}
use Rattle.c_memory.specs.Scenes.{types_in, state_in}
use Rattle.c_acts.proofs.ValueLemmas.{with_values, values_turn, values_none, values_end}
use Rattle.c_acts.proofs.acts.values_of.Goals as goal

pub loop-arg-preserved : goal.loop-arg-preserved
loop-arg-preserved c =
    values_turn (types_in c.args.s) (state_in c.args.s) c.loop-arg.values.items c.push.new.self.items c.args.args.now c.loop-arg.arg-index c.arg-item.result c.in-Some.v
    _ _ c.loop-arg-test.true c.arg-item.is c.in_ok-v.ensures c.in-Some.is c.in_ok-push-in-Some.ensures.items c.loop-arg.invariant

pub returns-in-None : goal.returns-in-None
returns-in-None c =
    values_none (types_in c.args.s) (state_in c.args.s) c.loop-arg.values.items c.args.args.now c.loop-arg.arg-index c.arg-item.result
    _ _ c.loop-arg-test.true c.arg-item.is c.in_ok-v.ensures c.in-None.is c.loop-arg.invariant

pub returns : goal.returns
returns c =
    values_end (types_in c.args.s) (state_in c.args.s) c.loop-arg.values.items _
    (sym (at_drop_all (with_values (types_in c.args.s) (state_in c.args.s) c.loop-arg.values.items) c.args.args.now c.loop-arg.arg-index c.loop-arg-test.false)
    ∙ c.loop-arg.invariant)
