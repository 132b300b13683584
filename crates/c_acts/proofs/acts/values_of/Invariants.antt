use Rattle.std.proofs.Common.{◌≡◌, drop}
use Rattle.c_meaning.specs.Values.{eval_all}
use Rattle.c_memory.specs.Scenes.{types_in, state_in}
use Rattle.c_acts.proofs.ValueLemmas.{with_values}
use Rattle.c_acts.proofs.acts.values_of.Given as goal

abbrev pub invariant-loop-arg : goal.invariant-loop-arg
invariant-loop-arg l =
    with_values (types_in l.s) (state_in l.s) l.values.items (drop l.arg-index l.args) ≡ eval_all (types_in l.s) l.args (state_in l.s)
