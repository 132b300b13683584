use Rattle.std.proofs.Common.{◌<◌, length, get_or, arith}
use Rattle.std.proofs.lemmas.List.{get_or_default}
use Rattle.rule_closure.specs.declared.engine.Link.{Link}
use Rattle.rule_closure.proofs.Chains.{chained}
use Rattle.rule_closure.proofs.engine.index.Goals as goal

pub loop-e-preserved : goal.loop-e-preserved
loop-e-preserved c =
    let d : Link = record { to = 0; beside = 0; gives = 0 } in
    let links = c.args.links.now in
    let e = c.loop-e.e in
    let link = get_or links e d in
    let low : e < length links = c.loop-e-test.true in
    let at = get_or_default links e link d low in
    let ends = c.requires.in_range e link low at in
    chained links e link low at c.loop-e.heads c.loop-e.nexts (omega (arith, ends.to_in, c.loop-e.auto.heads)) (omega (arith, low, c.requires.long, c.loop-e.auto.nexts)) c.loop-e.invariant
