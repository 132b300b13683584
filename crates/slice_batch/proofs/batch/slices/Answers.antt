use Rattle.std.proofs.Common.{◌≡◌, ℕ, ◌<◌, length, ap, arith}
use Rattle.crew.specs.Counts.{Has, once_below}
use Rattle.crew.specs.Seats.{view}
use Rattle.slice_batch.proofs.Places.{all_placed}
use Rattle.slice_batch.proofs.Seats.{once_inside}
use Rattle.slice_batch.proofs.batch.slices.Goals as goal

pub returns : goal.returns
returns g c =
    let s = c.in_ok-seat.seat in
    let end_is : (view s).end ≡ length c.args.list.now = c.in_ok-seat.ensures.seat.is_seat.end_is in
    let drawn = c.in_ok-_words.ensures.drawn c.in_ok-seat.ensures.seat.done in
    let every : (k : ℕ) → k < length c.args.list.now → Has (view s).drawn k = λ k low.
    let all = drawn k in
    let here = ap (once_below k) end_is in
    let once = once_inside k (length c.args.list.now) low in
    omega (arith, all, here, once) in
    all_placed c.args.e.now c.args.list.now (view s).drawn c.join_all.new.texts.items c.in_ok-seat.ensures.places every c.in_ok-seat.ensures.placed
