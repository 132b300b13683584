use Rattle.std.proofs.Common.{◌≡◌, ◌+◌, List, false, length, ap, arith}
use Rattle.dep_model.specs.declared.location.Location.{Location}
use Rattle.dep_model.specs.LocationLists.{location_list}
use Rattle.points_to.proofs.JoinLemmas.{joined_none, joined_more, joined_skip, joined_all}
use Rattle.points_to.proofs.solver.Solver.join.Goals as goal

pub loop-place-init : goal.loop-place-init
loop-place-init c =
    let w = c.args.self.now in
    let n = c.next_place-place.ensures in
    record { joined = joined_skip 0 c.next_place-place.result w w false n.later n.passed (joined_none w c.requires.ready); within = n.inside }

pub loop-place-preserved : goal.loop-place-preserved
loop-place-preserved c =
    let l = c.loop-place in
    let n = c.next_place-place-in-loop-place.ensures in
    record {
      joined = joined_skip (l.place + 1) c.next_place-place-in-loop-place.result c.args.self.now c.join_at-more.new.self _ n.later n.passed
          (joined_more l.place c.args.self.now l.self c.join_at-more.new.self l.changed c.join_at-more.result l.invariant.joined c.join_at-more.ensures);
      within = n.inside;
    }

pub returns : goal.returns
returns c =
    let l = c.loop-place in
    let most = l.invariant.within in
    let done = c.loop-place-test.false in
    let long = c.len-count.ensures in
    let same = ap (λ (xs : List Location). length xs) c.requires.ready.list_is in
    let end : l.place ≡ length (location_list c.args.self.now.effects) = omega (arith, most, done, long, same) in
    joined_all l.place c.args.self.now l.self l.changed c.requires.ready end l.invariant.joined
