-- The row at a place gains the right side, and what has read it is told so.
use Rattle.std.proofs.Common.{length, true, false, refl, sym, ap, ◌∙◌, subst}
use Rattle.bit_rows.specs.Sets.{union}
use Rattle.bit_rows.specs.Tables.{the_set, with_set, IsGrown}
use Rattle.bit_rows.specs.Words.{set_of}
use Rattle.dep_model.specs.Locations.{locations}
use Rattle.points_to.proofs.JoinLemmas.{grown_at, told_grown, told_same}
use Rattle.points_to.proofs.ReadyLemmas.{agenda_again}
use Rattle.points_to.proofs.solver.Solver.grow.Goals as goal

pub returns-then-join_words : goal.returns-then-join_words
returns-then-join_words c =
    let w = c.args.self.now in
    let r = c.requires.ready in
    let e = c.join_words.ensures in
    let t = c.tell.ensures in
    let right = ap (λ n. set_of n c.words.result.now) (r.points_are.sized.bits_are ∙ sym r.sides_are.bits_are) ∙ c.words.ensures.holds in
    let rows = e.joined ∙ ap (λ s. with_set w.points.rows c.args.place (union (the_set w.points.rows c.args.place) s)) right in
    grown_at c.args.place w _ true r c.requires.place_in refl refl refl refl rows (subst (IsGrown w.points.rows c.join_words.new.self) c.if-join_words.true e.grown) (agenda_again (length (locations w.effects)) w.agenda c.tell.new.self r.agenda_is t.readers t.long) (told_grown c.args.place w _ rows t.readers t.told)

pub returns-else-join_words : goal.returns-else-join_words
returns-else-join_words c =
    let w = c.args.self.now in
    let r = c.requires.ready in
    let e = c.join_words.ensures in
    let right = ap (λ n. set_of n c.words.result.now) (r.points_are.sized.bits_are ∙ sym r.sides_are.bits_are) ∙ c.words.ensures.holds in
    let rows = e.joined ∙ ap (λ s. with_set w.points.rows c.args.place (union (the_set w.points.rows c.args.place) s)) right in
    grown_at c.args.place w _ false r c.requires.place_in refl refl refl refl rows (subst (IsGrown w.points.rows c.join_words.new.self) c.if-join_words.false e.grown) r.agenda_is (told_same w _ (e.grown.same c.if-join_words.false) refl)
