use Rattle.std.proofs.Common.{◌||◌, false}
use Rattle.forward_chop.proofs.RoundLaws.{gone_none, gone_both, open_stays, less_to_do, none_due}
use Rattle.forward_chop.proofs.rounds.settle.Goals as goal

pub loop-grows-init : goal.loop-grows-init
loop-grows-init c = record {
  parts = c.requires.parts;
  gone = (false, gone_none c.args.g.now.edges c.args.wanted.now c.args.into.now c.requires.open_.laid c.requires.open_.done);
  down = λ e. cc;
}

pub round-grows-requires-clause-parts : goal.round-grows-requires-clause-parts
round-grows-requires-clause-parts c = c.loop-grows.invariant.parts

pub round-grows-requires-clause-open_ : goal.round-grows-requires-clause-open_
round-grows-requires-clause-open_ c =
    let gone = c.loop-grows.invariant.gone in
    open_stays c.args.g.now c.args.wanted.now c.loop-grows.wanted c.args.into.now c.loop-grows.into gone.0 c.requires.open_ gone.1

pub loop-grows-smaller : goal.loop-grows-smaller
loop-grows-smaller c =
    less_to_do c.args.g.now.edges c.loop-grows.wanted c.round-grows.new.wanted c.loop-grows.into c.round-grows.new.into c.loop-grows.grows c.round-grows.result c.loop-grows-test.true c.round-grows.ensures.gone

pub loop-grows-preserved : goal.loop-grows-preserved
loop-grows-preserved c =
    let gone = c.loop-grows.invariant.gone in
    record {
      parts = c.round-grows.ensures.parts;
      gone = (
        gone.0 || c.round-grows.result,
        gone_both c.args.g.now.edges c.args.wanted.now c.loop-grows.wanted c.round-grows.new.wanted c.args.into.now c.loop-grows.into c.round-grows.new.into gone.0 c.round-grows.result gone.1 c.round-grows.ensures.gone,
      );
      down = c.round-grows.ensures.down;
    }

pub returns-clause-down : goal.returns-clause-down
returns-clause-down c =
    let gone = c.loop-grows.invariant.gone in
    let open_ = open_stays c.args.g.now c.args.wanted.now c.loop-grows.wanted c.args.into.now c.loop-grows.into gone.0 c.requires.open_ gone.1 in
    none_due c.args.g.now c.loop-grows.wanted c.loop-grows.into open_ (c.loop-grows.invariant.down c.loop-grows-test.false)
