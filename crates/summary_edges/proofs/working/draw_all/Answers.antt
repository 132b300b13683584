use Rattle.std.proofs.Common.{◌≡◌, ◌+◌, ◌-◌, ◌<◌, length, refl, ap, ◌∙◌, subst, arith}
use Rattle.std.specs.Prelude.{slice_index}
use Rattle.std.proofs.lemmas.Option.{slice_get-get_or}
use Rattle.crew.specs.declared.view.View.{View}
use Rattle.crew.specs.Counts.{Has}
use Rattle.crew.specs.Seats.{view}
use Rattle.summary_edges.specs.declared.fact_truth.FactTruth.{FactTruth}
use Rattle.summary_edges.proofs.RoundLaws.{room_stays}
use Rattle.summary_edges.proofs.WorkerLaws.{kept_all, kept_both, opened_still}
use Rattle.summary_edges.proofs.WorkLaws.{copy_still, drew_kept, drew_it, done_more, done_ends, done_kept, done_none, last_drawn}
use Rattle.summary_edges.proofs.working.draw_all.Goals as goal

pub loop-number-init : goal.loop-number-init
loop-number-init g c = record {
  board = refl;
  kept = kept_all (view c.args.seat.now);
  copy = c.requires.copy;
  room = λ k p at. (c.requires.each k p at).1;
  knows = done_none c.args.t.now (view c.args.seat.now);
  below = omega arith;
  last = λ h. absurd (omega (arith, h));
}

pub take-requires-clause-board : goal.take-requires-clause-board
take-requires-clause-board g c = c.in-Some.ensures.board ∙ c.loop-number.invariant.board ∙ c.requires.board

pub take-requires-clause-opened : goal.take-requires-clause-opened
take-requires-clause-opened g c =
    let old = view c.loop-number.seat in
    let drew = view c.draw.new.seat in
    opened_still c.args.t.now (view c.args.seat.now) drew (kept_both (view c.args.seat.now) old drew c.loop-number.invariant.kept (drew_kept old drew c.in-Some.number c.in-Some.ensures.some.2)) c.requires.opened

pub take-requires-clause-drawn : goal.take-requires-clause-drawn
take-requires-clause-drawn g c =
    let n = c.in-Some.number in
    let old = view c.loop-number.seat in
    let drew = view c.draw.new.seat in
    let parts = c.args.parts.now in
    let end_is = c.loop-number.invariant.kept.end_is in
    let is = c.requires.opened.end_is in
    let low = c.in-Some.ensures.some.1 in
    let long = c.requires.long in
    let inside : n < length parts = omega (arith, end_is, is, low, long) in
    (n, omega (arith, end_is, is, low), drew_it old drew n c.in-Some.ensures.some.2, (c.requires.each n _ (slice_get-get_or parts n _ inside)).0)

pub take-requires-clause-room : goal.take-requires-clause-room
take-requires-clause-room g c =
    let n = c.in-Some.number in
    let parts = c.args.parts.now in
    let end_is = c.loop-number.invariant.kept.end_is in
    let is = c.requires.opened.end_is in
    let low = c.in-Some.ensures.some.1 in
    let long = c.requires.long in
    c.loop-number.invariant.room n _ (slice_get-get_or parts n _ (omega (arith, end_is, is, low, long)))

pub take-requires-clause-copy : goal.take-requires-clause-copy
take-requires-clause-copy g c =
    let old = view c.loop-number.seat in
    let drew = view c.draw.new.seat in
    copy_still c.args.t.now.graph.now c.loop-number.known old drew (drew_kept old drew c.in-Some.number c.in-Some.ensures.some.2) c.loop-number.invariant.copy

pub loop-number-preserved : goal.loop-number-preserved
loop-number-preserved g c =
    let inv = c.loop-number.invariant in
    let n = c.in-Some.number in
    let first = view c.args.seat.now in
    let old = view c.loop-number.seat in
    let drew = view c.draw.new.seat in
    let next = view c.take.new.seat in
    let e = c.in_ok-take.ensures in
    let some = c.in-Some.ensures.some in
    let end_is = inv.kept.end_is in
    let is = c.requires.opened.end_is in
    let low = some.1 in
    let long = c.requires.long in
    let parts = c.args.parts.now in
    let inside : n < length parts = omega (arith, end_is, is, low, long) in
    let at = slice_get-get_or parts n _ inside in
    let drew_is = some.2 in
    let last_end : next.end ≡ old.end = e.learned.kept.end_is ∙ ap (λ (v : View FactTruth). v.end) drew_is in
    record {
      board = e.board ∙ c.in-Some.ensures.board ∙ inv.board;
      kept = kept_both first old next inv.kept (kept_both old drew next (drew_kept old drew n drew_is) e.learned.kept);
      copy = e.copy;
      room = λ k p place. room_stays p c.loop-number.table c.take.new.table e.room (inv.room k p place);
      knows = done_more c.args.t.now first old drew next n drew_is e.learned inv.knows (e.knows (slice_index c.args.t.now.agenda.now n) (c.requires.each n _ at).0);
      below = omega (arith, low, last_end);
      last = λ h. let m : n ≡ n + 1 - 1 = omega arith in subst (Has next.drawn) m (last_drawn c.args.t.now first old drew next n drew_is e.learned);
    }

pub returns-in_err-take-clause-kept : goal.returns-in_err-take-clause-kept
returns-in_err-take-clause-kept g c =
    let first = view c.args.seat.now in
    let old = view c.loop-number.seat in
    let drew = view c.draw.new.seat in
    let next = view c.take.new.seat in
    kept_both first old next c.loop-number.invariant.kept (kept_both old drew next (drew_kept old drew c.in-Some.number c.in-Some.ensures.some.2) c.take.ensures.learned.kept)

pub returns-clause-kept : goal.returns-clause-kept
returns-clause-kept g c =
    let first = view c.args.seat.now in
    let old = view c.loop-number.seat in
    let next = view c.draw.new.seat in
    kept_both first old next c.loop-number.invariant.kept (done_kept old next c.in_default.ensures.none)

pub returns-clause-knows : goal.returns-clause-knows
returns-clause-knows g c =
    done_ends c.args.t.now (view c.args.seat.now) (view c.loop-number.seat) (view c.draw.new.seat) c.in_default.ensures.none c.loop-number.invariant.knows
