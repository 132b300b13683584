use Rattle.std.proofs.Common.{◌≡◌, ◌+◌, ◌++◌, ◌||◌, Some, length, sym, ap, ◌∙◌, subst, arith}
use Rattle.std.specs.Prelude.{IfOk}
use Rattle.std.proofs.lemmas.List.Elements.{All-pop}
use Rattle.crew.specs.declared.truth.Numbers.{Numbers}
use Rattle.crew.specs.declared.view.View.{View}
use Rattle.crew.specs.Seats.{view, id_of}
use Rattle.slice_batch.specs.Team.{ArePlaced, HasMade, IsWorked, numbers}
use Rattle.slice_batch.proofs.Seats.{seat_kept, worked_more}
use Rattle.slice_batch.proofs.Places.{placed_both}
use Rattle.slice_batch.proofs.team.join_all.Goals as goal

pub place-requires-clause-each : goal.place-requires-clause-each
place-requires-clause-each c =
    let p = c.args.e.now in
    let list = c.args.list.now in
    let P = IsWorked p list (id_of c.args.board.now) in
    let split = All-pop P c.args.all.items c.pop.new.self.items (Some c.in-Some.last) c.in-Some.ensures.items c.requires.each in
    let made = subst (λ r. IfOk r (λ v. HasMade p list c.in-Some.last.seat v.items)) c.in_ok-made.was split.1.made in
    made.each

pub loop-other-init : goal.loop-other-init
loop-other-init c =
    let p = c.args.e.now in
    let list = c.args.list.now in
    let P = IsWorked p list (id_of c.args.board.now) in
    let last = c.in-Some.last in
    let items = c.in-Some.ensures.items in
    let split = All-pop P c.args.all.items c.pop.new.self.items (Some last) items c.requires.each in
    let made = subst (λ r. IfOk r (λ v. HasMade p list last.seat v.items)) c.in_ok-made.was split.1.made in
    let more = worked_more c.pop.new.self.items c.args.all.items last items in
    record {
      is_seat = split.1.is_seat;
      done = made.done;
      parts = omega (arith, more, c.requires.parts);
      each = split.0;
      places = c.place.ensures.places;
      placed = subst (λ ks. ArePlaced p list ks c.place.new.texts.items) (sym made.numbers_are) c.place.ensures.placed;
    }

pub loop-other-preserved : goal.loop-other-preserved
loop-other-preserved c =
    let p = c.args.e.now in
    let list = c.args.list.now in
    let at = c.loop-other in
    let inv = at.invariant in
    let P = IsWorked p list (id_of c.args.board.now) in
    let other = c.in-Some-pop.other in
    let rest = c.pop-in-loop-other.new.self.items in
    let items = c.in-Some-pop.ensures.items in
    let split = All-pop P at.all.items rest (Some other) items inv.each in
    let made = subst (λ r. IfOk r (λ v. HasMade p list other.seat v.items)) c.in_ok-made-2.was split.1.made in
    let more = worked_more rest at.all.items other items in
    let joined = c.join.ensures.view in
    let spare : (view c.join.new.seat).spare ≡ (view at.seat).spare + (view other.seat).spare + 1 = ap (λ (v : View Numbers). v.spare) joined in
    let drawn : (view c.join.new.seat).drawn ≡ (view at.seat).drawn ++ numbers c.in_ok-made-2.made.items = ap (λ (v : View Numbers). v.drawn) joined ∙ ap (λ ks. (view at.seat).drawn ++ ks) made.numbers_are in
    record {
      is_seat = seat_kept (id_of c.args.board.now) (length list) at.seat c.join.new.seat inv.is_seat c.join.ensures.board (ap (λ (v : View Numbers). v.end) joined);
      done = ap (λ (v : View Numbers). v.done) joined ∙ ap (λ d. d || (view other.seat).done) inv.done;
      parts = omega (arith, more, spare, inv.parts);
      each = split.0;
      places = c.place-in-Some-pop.ensures.places;
      placed = subst (λ ks. ArePlaced p list ks c.place-in-Some-pop.new.texts.items) (sym drawn)
          (placed_both p list (view at.seat).drawn (numbers c.in_ok-made-2.made.items) at.texts.items c.place-in-Some-pop.new.texts.items inv.placed c.place-in-Some-pop.ensures.kept c.place-in-Some-pop.ensures.placed);
    }
