use Rattle.std.proofs.Common.{◌<◌, ◌-◌, arith, get_or, length}
use Rattle.std.proofs.lemmas.List.{get_or_default}
use Rattle.std.proofs.lemmas.List.Elements.{All-get_or}
use Rattle.dep_model.specs.declared.skeleton.Pair.{Pair}
use Rattle.reaching_defs.specs.Stretches.{IsPairAmong}
use Rattle.reaching_defs.proofs.SuccessorLemmas.{heads_turn, nexts_turn}
use Rattle.reaching_defs.proofs.successors.index.Goals as goal

pub loop-e-preserved : goal.loop-e-preserved
loop-e-preserved c =
    let pairs = c.args.pairs.now in
    let here = c.loop-e-test.true in
    let none : Pair = record { from = 0; to = 0 } in
    let one : Pair = get_or pairs c.loop-e.e none in
    let is = get_or_default pairs c.loop-e.e one none here in
    let among : IsPairAmong c.args.base _ one = All-get_or (IsPairAmong c.args.base _) pairs c.loop-e.e none here c.requires.inside in
    let low = among.from_low in
    let high = among.from_high in
    let wide : one.from - c.args.base < length c.loop-e.heads = omega (arith, low, high, c.loop-e.auto.heads) in
    let long : c.loop-e.e < length c.loop-e.nexts = omega (arith, here, c.requires.long, c.loop-e.auto.nexts) in
    record {
      heads_are = heads_turn pairs c.loop-e.e one here is c.args.base c.loop-e.heads c.loop-e.nexts low wide long c.loop-e.invariant.heads_are c.loop-e.invariant.nexts_are;
      nexts_are = nexts_turn pairs c.loop-e.e one here is c.args.base c.loop-e.heads c.loop-e.nexts low wide long c.loop-e.invariant.heads_are c.loop-e.invariant.nexts_are;
    }
