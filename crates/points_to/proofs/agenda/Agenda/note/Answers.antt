use Rattle.std.proofs.Common.{◌∙◌, ◌+◌, refl, subst, arith}
use Rattle.bit_rows.specs.Tables.{the_set, IsSized}
use Rattle.points_to.proofs.NotedLemmas.{noted_none, noted_skip, noted_step}
use Rattle.points_to.proofs.agenda.Agenda.note.Goals as goal

pub loop-place-init : goal.loop-place-init
loop-place-init c =
    let a = c.args.self.now in
    let n = c.next_place-place.ensures in
    let read = the_set c.args.read.now c.args.row in
    record {
      noted = noted_skip 0 c.next_place-place.result c.args.k c.args.read.now.bits a.readers.bits read a.readers a.readers n.passed (noted_none c.args.k c.args.read.now.bits a.readers.bits read a.readers c.requires.sized);
      within = n.inside;
      settled = refl;
    }

pub loop-place-preserved : goal.loop-place-preserved
loop-place-preserved c =
    let a = c.args.self.now in
    let l = c.loop-place in
    let i = l.invariant in
    let e = c.note_at.ensures in
    let n = c.next_place-place-in-loop-place.ensures in
    let read = the_set c.args.read.now c.args.row in
    let new = c.note_at.new.self in
    let bits = i.noted.sized.bits_are in
    record {
      noted = noted_skip (l.place + 1) c.next_place-place-in-loop-place.result c.args.k c.args.read.now.bits a.readers.bits read a.readers new.readers n.passed
          (noted_step l.place c.args.k c.args.read.now.bits a.readers.bits read a.readers l.self.readers new.readers (subst (λ m. IsSized c.args.read.now.bits m new.readers) bits e.sized) e.kept e.noted i.noted);
      within = n.inside;
      settled = e.settled ∙ i.settled;
    }

pub returns-clause-noted : goal.returns-clause-noted
returns-clause-noted c =
    let l = c.loop-place in
    let i = l.invariant in
    let done = c.loop-place-test.false in
    let count = c.requires.count in
    λ k low h. i.noted.noted k (omega (arith, low, done, count)) h

pub returns-clause-kept : goal.returns-clause-kept
returns-clause-kept c = c.loop-place.invariant.noted.kept

pub returns-clause-sized : goal.returns-clause-sized
returns-clause-sized c = c.loop-place.invariant.noted.sized

pub returns-clause-settled : goal.returns-clause-settled
returns-clause-settled c = c.loop-place.invariant.settled
