use Rattle.std.proofs.Common.{◌≡◌, ◌-◌, List, [], ◌∷◌, All, length, length-append, sym, ap, ◌∙◌, subst, arith, rules}
use Rattle.std.proofs.lemmas.List.Elements.{All-push}
use Rattle.crew.specs.declared.view.View.{View}
use Rattle.crew.specs.Seats.{view}
use Rattle.summary_edges.specs.declared.fact_truth.FactTruth.{FactTruth}
use Rattle.summary_edges.specs.Teams.{Seat, IsFresh}
use Rattle.summary_edges.proofs.TeamLaws.{fresh_giver, fresh_split, like_itself, parts_more}
use Rattle.summary_edges.proofs.team.seats_of.Goals as goal

pub loop-seat-init : goal.loop-seat-init
loop-seat-init c =
    let spare = c.requires.spare in
    record {
      fresh = record { like = like_itself c.args.first; none = c.requires.none };
      board = c.requires.board;
      each = search rules;
      count = search rules;
      spare = search (rules, spare);
      parts = search (rules, spare);
    }

pub split-requires : goal.split-requires
split-requires c =
    let inv = c.loop-seat.invariant in
    let spare = inv.spare in
    let count = inv.count in
    let low = c.loop-seat-test.true in
    let few = c.requires.count.1 in
    record { board = inv.board; spare = omega (arith, spare, count, low, few) }

pub loop-seat-preserved : goal.loop-seat-preserved
loop-seat-preserved c =
    let at = c.loop-seat in
    let inv = at.invariant in
    let first = c.args.first in
    let s = c.split.result in
    let e = c.split.ensures in
    let items = c.in_ok-push.ensures.items in
    let long = ap (λ (xs : List Seat). length xs) items in
    let one = length-append at.seats.items (s ∷ []) in
    let left : (view c.split.new.seat).spare ≡ (view at.first).spare - 1 = ap (λ (v : View FactTruth). v.spare) e.giver in
    let none : (view s).spare ≡ 0 = ap (λ (v : View FactTruth). v.spare) e.view in
    let more = parts_more at.seats.items c.push.new.self.items s items in
    record {
      fresh = fresh_giver first at.first c.split.new.seat inv.fresh e.board.0 e.giver;
      board = e.board.0 ∙ inv.board;
      each = subst (All (IsFresh first)) (sym items) (All-push (IsFresh first) at.seats.items s inv.each (fresh_split first at.first s inv.fresh e.board.1 e.view));
      count = omega arith;
      spare = omega arith;
      parts = omega arith;
    }

pub returns-clause-count : goal.returns-clause-count
returns-clause-count c =
    let at = c.loop-seat in
    let inv = at.invariant in
    let items = c.in_ok-push-2.ensures.items in
    let long = ap (λ (xs : List Seat). length xs) items in
    let one = length-append at.seats.items (at.first ∷ []) in
    omega arith

pub returns-clause-parts : goal.returns-clause-parts
returns-clause-parts c =
    let more = parts_more c.loop-seat.seats.items c.push-2.new.self.items c.loop-seat.first c.in_ok-push-2.ensures.items in
    let all = c.loop-seat.invariant.parts in
    omega arith

pub returns-clause-each : goal.returns-clause-each
returns-clause-each c =
    let P = IsFresh c.args.first in
    subst (All P) (sym c.in_ok-push-2.ensures.items) (All-push P c.loop-seat.seats.items c.loop-seat.first c.loop-seat.invariant.each c.loop-seat.invariant.fresh)
