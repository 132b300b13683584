use Rattle.std.proofs.Common.{◌≡◌, ◌*◌, ◌-◌, length}
use Rattle.bit_rows.specs.Tables.{count_all}
use Rattle.dep_model.specs.LocationRows.{points_of}
use Rattle.dep_model.specs.Locations.{locations}
use Rattle.points_laws.specs.Relations.{IsDerived}
use Rattle.points_to.specs.Rounds.{AreHeld}
use Rattle.points_to.specs.Sweeps.{IsReady}
use Rattle.points_to.proofs.rounds.settle.Given as goal

abbrev pub invariant-loop-alloc : goal.invariant-loop-alloc
invariant-loop-alloc l = record {
  ready : IsReady l.solver;
  program : l.solver.effects ≡ l.initial.solver.effects;
  statements : l.solver.agenda.readers.bits ≡ length l.moves;
  derived : IsDerived l.initial.solver.effects (points_of l.initial.solver.effects l.solver.points);
  held : AreHeld l.initial.solver.effects l.moves l.solver;
}

abbrev pub decreases-loop-alloc : goal.decreases-loop-alloc
decreases-loop-alloc l = length (locations l.initial.solver.effects) * length (locations l.initial.solver.effects) - count_all l.solver.points.rows
