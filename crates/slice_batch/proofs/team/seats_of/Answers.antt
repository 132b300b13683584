use Rattle.std.proofs.Common.{◌≡◌, ◌-◌, List, [], ◌∷◌, All, length, length-append, sym, ap, subst, arith}
use Rattle.std.proofs.lemmas.List.Elements.{All-push}
use Rattle.crew.specs.declared.board.BoardSeat.{BoardSeat}
use Rattle.crew.specs.declared.truth.Numbers.{Numbers}
use Rattle.crew.specs.declared.view.View.{View}
use Rattle.crew.specs.Seats.{view, id_of}
use Rattle.slice_batch.specs.Team.{IsFresh}
use Rattle.slice_batch.proofs.Seats.{fresh_giver, fresh_split, parts_more}
use Rattle.slice_batch.proofs.team.seats_of.Goals as goal

pub loop-seat-preserved : goal.loop-seat-preserved
loop-seat-preserved c =
    let at = c.loop-seat in
    let inv = at.invariant in
    let board = id_of c.args.board.now in
    let end_ = (view c.args.first).end in
    let s = c.split.result in
    let items = c.in_ok-push.ensures.items in
    let long = ap (λ (xs : List (BoardSeat Numbers)). length xs) items in
    let one = length-append at.seats.items (s ∷ []) in
    let left : (view c.split.new.seat).spare ≡ (view at.first).spare - 1 = ap (λ (v : View Numbers). v.spare) c.split.ensures.giver in
    let none : (view s).spare ≡ 0 = ap (λ (v : View Numbers). v.spare) c.split.ensures.view in
    let more = parts_more at.seats.items c.push.new.self.items s items in
    record {
      first = fresh_giver board end_ at.first c.split.new.seat inv.first c.split.ensures.board.0 c.split.ensures.giver;
      each = subst (All (IsFresh board end_)) (sym items) (All-push (IsFresh board end_) at.seats.items s inv.each (fresh_split board end_ at.first s inv.first c.split.ensures.board.1 c.split.ensures.view));
      count = omega arith;
      spare = omega arith;
      parts = omega arith;
    }

pub returns-clause-count : goal.returns-clause-count
returns-clause-count c =
    let at = c.loop-seat in
    let inv = at.invariant in
    let items = c.in_ok-push-2.ensures.items in
    let long = ap (λ (xs : List (BoardSeat Numbers)). length xs) items in
    let one = length-append at.seats.items (at.first ∷ []) in
    omega arith

pub returns-clause-parts : goal.returns-clause-parts
returns-clause-parts c =
    let more = parts_more c.loop-seat.seats.items c.push-2.new.self.items c.loop-seat.first c.in_ok-push-2.ensures.items in
    let all = c.loop-seat.invariant.parts in
    omega arith

pub returns-clause-each : goal.returns-clause-each
returns-clause-each c =
    let P = IsFresh (id_of c.args.board.now) (view c.args.first).end in
    subst (All P) (sym c.in_ok-push-2.ensures.items) (All-push P c.loop-seat.seats.items c.loop-seat.first c.loop-seat.invariant.each c.loop-seat.invariant.first)
