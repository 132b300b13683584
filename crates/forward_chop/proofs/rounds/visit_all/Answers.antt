use Rattle.std.proofs.Common.{◌∙◌, refl, arith}
use Rattle.forward_chop.proofs.RoundLaws.{gone_none, gone_both, open_stays, down_more}
use Rattle.forward_chop.proofs.rounds.visit_all.Goals as goal

pub loop-way_in-init : goal.loop-way_in-init
loop-way_in-init c = record {
  part = c.requires.part;
  range = refl;
  gone = gone_none c.args.g.now.edges c.args.wanted.now c.args.into.now c.requires.open_.laid c.requires.open_.done;
  down = λ e x i low. absurd (let from = i.0 in omega (arith, from, low));
}

pub visit-more-requires-clause-part : goal.visit-more-requires-clause-part
visit-more-requires-clause-part c = c.loop-way_in.invariant.part

pub visit-more-requires-clause-open_ : goal.visit-more-requires-clause-open_
visit-more-requires-clause-open_ c =
    open_stays c.args.g.now c.args.wanted.now c.loop-way_in.wanted c.args.into.now c.loop-way_in.into c.loop-way_in.grows c.requires.open_ c.loop-way_in.invariant.gone

pub loop-way_in-preserved : goal.loop-way_in-preserved
loop-way_in-preserved c =
    let es = c.args.g.now.edges in
    let l = c.loop-way_in in
    let e = c.visit-more.ensures in
    let new = c.visit-more.new in
    let more = c.visit-more.result in
    record {
      part = e.part;
      range = e.range ∙ l.invariant.range;
      gone = gone_both es c.args.wanted.now l.wanted new.wanted c.args.into.now l.into new.into l.grows more l.invariant.gone e.gone;
      down = down_more es l.wanted new.wanted l.into new.into l.grows more c.args.part.now.range l.way_in e.gone l.invariant.down e.down;
    }

pub returns-clause-part : goal.returns-clause-part
returns-clause-part c = c.loop-way_in.invariant.part

pub returns-clause-range : goal.returns-clause-range
returns-clause-range c = c.loop-way_in.invariant.range

pub returns-clause-gone : goal.returns-clause-gone
returns-clause-gone c = c.loop-way_in.invariant.gone

pub returns-clause-down : goal.returns-clause-down
returns-clause-down c = λ e x i.
    let ended = c.loop-way_in-test.false in
    let below = i.1 in
    c.loop-way_in.invariant.down e x i (omega (arith, ended, below))
