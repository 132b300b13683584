use Rattle.std.proofs.Common.{length, refl, arith}
use Rattle.dep_model.specs.Denoted.{expr_points}
use Rattle.dep_model.specs.LocationRows.{points_of}
use Rattle.dep_model.specs.Locations.{locations}
use Rattle.points_to.proofs.ReadyLemmas.{ready_again, three_still}
use Rattle.points_to.proofs.SidesLemmas.{filled_row, other_row}
use Rattle.points_to.proofs.solver.Solver.fill_value.Goals as goal

pub returns : goal.returns
returns c =
    let w = c.args.self.now in
    let r = c.requires.ready in
    let e = c.add_points.ensures in
    record {
      ready = ready_again w _ r e.kept refl refl r.points_are (three_still (length (locations w.effects)) w.sides c.clear.new.self _ r.sides_are c.clear.ensures.size e.size) r.agenda_is;
      program_stays = e.kept;
      rows_stay = refl;
      agenda_stays = refl;
      left_stays = other_row w.effects 1 w.sides c.clear.new.self r.sides_are (omega arith) c.clear.ensures.cleared 0 _ _ (omega arith) e.gained;
      right = filled_row w.effects 1 w.sides c.clear.new.self r.sides_are (omega arith) c.clear.ensures.cleared (expr_points w.effects (points_of w.effects w.points) c.args.value.now) _ e.gained;
    }
