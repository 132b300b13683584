use Rattle.std.proofs.Common.{length, refl, sym, ap, ◌∙◌, arith}
use Rattle.bit_rows.specs.Sets.{union}
use Rattle.bit_rows.specs.Tables.{the_set, with_set}
use Rattle.bit_rows.specs.Words.{set_of}
use Rattle.dep_model.specs.DoingEffects.{result_of}
use Rattle.dep_model.specs.LocationRows.{points_of}
use Rattle.dep_model.specs.Locations.{locations}
use Rattle.effect_rows.proofs.PlaceRows.{place_within}
use Rattle.points_to.proofs.ReadyLemmas.{ready_again, three_rows}
use Rattle.points_to.proofs.RowsOfOne.{listed_row, unlisted_row}
use Rattle.points_to.proofs.SidesLemmas.{cleared_row, joined_row, other_row, other_cleared}
use Rattle.points_to.proofs.solver.Solver.fill_result.Goals as goal

pub words-requires : goal.words-requires
words-requires c =
    let w = c.args.self.now in
    let low = place_within w.effects (result_of c.args.f) c.in-Some.place (c.place_of.ensures.found c.in-Some.place c.in-Some.is) in
    let rows = c.requires.ready.points_are.sized.rows_are in
    omega (arith, low, rows)

pub returns-in-Some : goal.returns-in-Some
returns-in-Some c =
    let w = c.args.self.now in
    let p = w.effects in
    let r = c.requires.ready in
    let n = length (locations p) in
    let t = c.clear.new.self in
    let k = c.in-Some.place in
    let two = three_rows n w.sides t r.sides_are c.clear.ensures.size in
    let joined = c.join_words.ensures.joined ∙ ap (λ s. with_set t 1 (union (the_set t 1) s)) (ap (λ b. set_of b c.words.result.now) (two.bits_are ∙ sym r.points_are.sized.bits_are) ∙ c.words.ensures.holds) in
    record {
      ready = ready_again w _ r refl refl refl r.points_are (three_rows n t c.join_words.new.self two c.join_words.ensures.size) r.agenda_is;
      program_stays = refl;
      rows_stay = refl;
      agenda_stays = refl;
      left_stays = other_row p 1 w.sides t r.sides_are (omega arith) c.clear.ensures.cleared 0 _ _ (omega arith) c.join_words.ensures.joined;
      right = joined_row p 1 w.sides t r.sides_are (omega arith) c.clear.ensures.cleared (points_of p w.points (result_of c.args.f)) (the_set w.points.rows k) c.join_words.new.self joined (listed_row p r.once w.points r.points_are (result_of c.args.f) k (c.place_of.ensures.found k c.in-Some.is));
    }

pub returns-in-None : goal.returns-in-None
returns-in-None c =
    let w = c.args.self.now in
    let p = w.effects in
    let r = c.requires.ready in
    let t = c.clear.new.self in
    record {
      ready = ready_again w _ r refl refl refl r.points_are (three_rows (length (locations p)) w.sides t r.sides_are c.clear.ensures.size) r.agenda_is;
      program_stays = refl;
      rows_stay = refl;
      agenda_stays = refl;
      left_stays = other_cleared p 1 w.sides t r.sides_are (omega arith) c.clear.ensures.cleared 0 (omega arith);
      right = cleared_row p 1 w.sides t r.sides_are (omega arith) c.clear.ensures.cleared ∙ sym (unlisted_row p r.once w.points r.points_are (result_of c.args.f) (c.place_of.ensures.missing c.in-None.is));
    }
