-- What the statement reads is noted before it is used, so that it is used again where one of these rows grows.
use Rattle.std.proofs.Common.{◌≡◌, ℕ, length, true, inl, inr, refl, sym, ap, ◌∙◌, subst, arith}
use Rattle.std.specs.Global.{Vec}
use Rattle.bit_rows.specs.Sets.{has}
use Rattle.bit_rows.specs.Tables.{Table, Holds}
use Rattle.bit_rows.specs.Words.{word_bit}
use Rattle.dep_model.specs.declared.points_to.PointsTo.{PointsTo}
use Rattle.dep_model.specs.LocationRows.{points_of}
use Rattle.dep_model.specs.Locations.{locations}
use Rattle.effect_rows.proofs.PlaceRows.{place_within}
use Rattle.effect_rows.proofs.StepRows.{alone_at, has_row_of}
use Rattle.mod_ref.specs.Own.{own_doings}
use Rattle.points_to.specs.declared.agenda.Agenda.{Agenda}
use Rattle.points_to.specs.declared.solver.Solver.{Solver}
use Rattle.points_to.specs.Agendas.{is_settled}
use Rattle.points_to.specs.Rounds.{own_pointing_reads}
use Rattle.points_to.specs.Sweeps.{Standing, standing, given_by}
use Rattle.points_to.proofs.HeldLemmas.{round_taken}
use Rattle.points_to.proofs.SweepLemmas.{swept_moved}
use Rattle.points_to.proofs.solver.Solver.take.Goals as goal

pub returns : goal.returns
returns c = λ moves at.
    let w = c.args.self.now in
    let p = w.effects in
    let m = c.args.step.now in
    let f = c.find_reads.ensures in
    let read = c.find_reads.new.self in
    let n = c.note.ensures in
    let mid : Solver = record read { agenda = c.note.new.self } in
    let points : read.points ≡ w.points = ap (λ (s : Standing). s.points) f.rows in
    let agenda : read.agenda ≡ w.agenda = ap (λ (s : Standing). s.agenda) f.rows in
    let readers : c.settle.new.self.readers ≡ w.agenda.readers = c.settle.ensures.readers ∙ ap (λ (a : Agenda). a.readers) agenda in
    round_taken p moves c.args.k m at w mid c.alone.new.self c.alone.result c.requires.ready.once points (n.sized.bits_are ∙ ap (λ (t : Table). t.bits) readers)
    (λ l j h. n.kept l j (subst (λ (t : Table). Holds t l j) (sym readers) h))
    (λ j o at_o reads.
    let low = place_within p o.location j (alone_at (locations p) j o at_o) in
    let row = f.ready.sides_are.bits_are in
    let same = ap (λ q. length (locations q)) f.program in
    n.noted j (omega (arith, low, row, same)) (ap (λ s. has s j) f.read ∙ has_row_of p (own_pointing_reads p (points_of p w.points) m.statement.now) j o at_o ∙ subst (λ (t : PointsTo). own_pointing_reads p (points_of p t) m.statement.now o.location ≡ true) points reads))
    (λ j h. elim (c.settle.ensures.settled j (subst (λ (v : Vec ℕ). word_bit v.items j ≡ true) n.settled h)) [
      | inl same ↦ inl same
      | inr before ↦ inr (subst (λ (a : Agenda). is_settled a j ≡ true) agenda before)
    ])
    (swept_moved p (standing mid) (λ q. given_by q m.function (own_doings m.statement.now)) mid c.alone.new.self c.alone.result f.program refl c.alone.ensures)
