use Rattle.std.proofs.Common.{◌≡◌, ◌+◌, ◌-◌, ◌<◌, ◌≤◌, [], ◌∷◌, ◌++◌, All, length, slice_index_or, sym, ap, ◌∙◌, subst, arith}
use Rattle.std.proofs.lemmas.List.{get_or_default, map-append}
use Rattle.std.proofs.lemmas.List.Elements.{All-get_or, All-push}
use Rattle.crew.specs.declared.truth.Numbers.{Numbers}
use Rattle.crew.specs.declared.view.View.{View}
use Rattle.crew.specs.Counts.{times}
use Rattle.crew.specs.Seats.{view, id_of}
use Rattle.crew.proofs.CountLemmas.{times_last}
use Rattle.slice_engine.specs.declared.engine.Criterion.{Criterion}
use Rattle.slice_engine.specs.Slice.{HasStart}
use Rattle.slice_batch.specs.declared.worker.Made.{Made}
use Rattle.slice_batch.specs.Batch.{IsTextOf}
use Rattle.slice_batch.specs.Team.{IsMade, numbers}
use Rattle.slice_batch.proofs.Places.{text_made}
use Rattle.slice_batch.proofs.Seats.{seat_kept}
use Rattle.slice_batch.proofs.worker.make_all.Goals as goal

pub slice_text-requires : goal.slice_text-requires
slice_text-requires g c =
    let list = c.args.list.now in
    let n = c.in-Some.number in
    let inv = c.loop-number.invariant in
    let d : Criterion = record { line = 0 } in
    let inside : n < length list = omega (arith, c.in-Some.ensures.some.1, inv.is_seat.end_is) in
    record {
      start = subst (λ p. HasStart p (slice_index_or list n d).line) (sym inv.same) (All-get_or (λ k. HasStart c.args.e.now k.line) list n d inside c.requires.starts);
    }

pub loop-number-preserved : goal.loop-number-preserved
loop-number-preserved g c =
    let at = c.loop-number in
    let inv = at.invariant in
    let list = c.args.list.now in
    let n = c.in-Some.number in
    let drew = c.in-Some.ensures.some in
    let end_is : (view c.draw.new.seat).end ≡ (view at.seat).end = ap (λ (v : View Numbers). v.end) drew.2 in
    let drawn : (view c.draw.new.seat).drawn ≡ (view at.seat).drawn ++ n ∷ [] = ap (λ (v : View Numbers). v.drawn) drew.2 in
    let inside : n < length list = omega (arith, drew.1, inv.is_seat.end_is) in
    let items = c.in_ok-push.ensures.items in
    let made : Made = record { number = n; text = c.in_ok-text.text } in
    let here : IsMade c.args.e.now list made = record {
      inside = inside;
      text = λ d. subst (λ (x : Criterion). IsTextOf c.args.e.now x c.in_ok-text.text) (get_or_default list n _ d inside)
          (text_made at.slicing c.args.e.now _ c.in_ok-text.text inv.same c.in_ok-text.ensures.slice c.in_ok-text.ensures.faithful);
    } in
    record {
      is_seat = seat_kept (id_of c.args.board.now) (length list) at.seat c.draw.new.seat inv.is_seat c.in-Some.ensures.board end_is;
      spare = ap (λ (v : View Numbers). v.spare) drew.2 ∙ inv.spare;
      numbers_are = drawn ∙ ap (λ ds. ds ++ n ∷ []) inv.numbers_are ∙ sym (map-append (λ (m : Made). m.number) at.made.items (made ∷ [])) ∙ ap numbers (sym items);
      each = subst (All (IsMade c.args.e.now list)) (sym items) (All-push (IsMade c.args.e.now list) at.made.items made inv.each here);
      same = c.in_ok-text.ensures.same ∙ inv.same;
      below = omega (arith, drew.1, end_is);
      last = λ h. subst (λ ds. 1 ≤ times (n + 1 - 1) ds) (sym drawn) (times_last n (view at.seat).drawn);
    }
