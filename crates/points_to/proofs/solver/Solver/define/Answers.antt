use Rattle.std.proofs.Common.{length, refl, arith}
use Rattle.dep_model.specs.LocationRows.{points_of}
use Rattle.dep_model.specs.Locations.{locations}
use Rattle.effect_rows.specs.Own.{own_defines}
use Rattle.points_to.proofs.ReadyLemmas.{ready_again, three_still}
use Rattle.points_to.proofs.SidesLemmas.{filled_row}
use Rattle.points_to.proofs.solver.Solver.define.Goals as goal

pub returns-clause-ready : goal.returns-clause-ready
returns-clause-ready c =
    let w = c.args.self.now in
    let size = three_still (length (locations w.effects)) w.sides c.clear.new.self _ c.requires.ready.sides_are c.clear.ensures.size c.add_defines.ensures.size in
    ready_again w _ c.requires.ready c.add_defines.ensures.kept refl refl c.requires.ready.points_are size c.requires.ready.agenda_is

pub returns-clause-left : goal.returns-clause-left
returns-clause-left c =
    let w = c.args.self.now in
    filled_row w.effects 0 w.sides c.clear.new.self c.requires.ready.sides_are (omega arith) c.clear.ensures.cleared (own_defines w.effects (points_of w.effects w.points) c.args.f c.args.statement.now) _ c.add_defines.ensures.gained
