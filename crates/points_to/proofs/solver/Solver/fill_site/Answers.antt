use Rattle.std.proofs.Common.{refl, arith}
use Rattle.dep_model.specs.Locations.{locations}
use Rattle.dep_model.specs.MayPoint.{site}
use Rattle.std.proofs.Common.{length}
use Rattle.effect_rows.proofs.PlaceRows.{place_within}
use Rattle.points_to.proofs.ReadyLemmas.{ready_again, three_rows}
use Rattle.points_to.proofs.SidesLemmas.{one_row, no_row, other_row, other_cleared}
use Rattle.points_to.proofs.solver.Solver.fill_site.Goals as goal

pub set-requires-clause-bit_in : goal.set-requires-clause-bit_in
set-requires-clause-bit_in c =
    let w = c.args.self.now in
    let lt = place_within w.effects (site c.args.id) c.in-Some.place (c.place_of.ensures.found c.in-Some.place c.in-Some.is) in
    let wide = c.requires.ready.sides_are.bits_are in
    let same = c.clear.ensures.size.bits_are in
    omega (arith, lt, wide, same)

pub returns-in-Some : goal.returns-in-Some
returns-in-Some c =
    let w = c.args.self.now in
    let r = c.requires.ready in
    let n = length (locations w.effects) in
    let t = c.clear.new.self in
    let two = three_rows n w.sides t r.sides_are c.clear.ensures.size in
    record {
      ready = ready_again w _ r refl refl refl r.points_are (three_rows n t c.set.new.self two c.set.ensures.size) r.agenda_is;
      program_stays = refl;
      rows_stay = refl;
      agenda_stays = refl;
      left_stays = other_row w.effects 1 w.sides t r.sides_are (omega arith) c.clear.ensures.cleared 0 _ _ (omega arith) c.set.ensures.added;
      right = one_row w.effects 1 w.sides t r.sides_are (omega arith) c.clear.ensures.cleared r.once (site c.args.id) c.in-Some.place c.place_of.result c.set.new.self c.place_of.ensures c.in-Some.is c.set.ensures.added;
    }

pub returns-in-None : goal.returns-in-None
returns-in-None c =
    let w = c.args.self.now in
    let r = c.requires.ready in
    let t = c.clear.new.self in
    record {
      ready = ready_again w _ r refl refl refl r.points_are (three_rows (length (locations w.effects)) w.sides t r.sides_are c.clear.ensures.size) r.agenda_is;
      program_stays = refl;
      rows_stay = refl;
      agenda_stays = refl;
      left_stays = other_cleared w.effects 1 w.sides t r.sides_are (omega arith) c.clear.ensures.cleared 0 (omega arith);
      right = no_row w.effects 1 w.sides t r.sides_are (omega arith) c.clear.ensures.cleared (site c.args.id) c.place_of.result c.place_of.ensures c.in-None.is;
    }
