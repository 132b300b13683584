use Rattle.std.proofs.Common.{◌≡◌, take}
use Rattle.bit_rows.specs.Tables.{the_set}
use Rattle.dep_model.specs.Denoted.{Places}
use Rattle.effect_rows.specs.Gains.{row_of}
use Rattle.points_to.specs.Sweeps.{standing, IsReady, IsSwept, stored}
use Rattle.points_to.proofs.solver.Solver.store_all.Given as goal

abbrev pub invariant-loop-value : goal.invariant-loop-value
invariant-loop-value l = record {
  ready : IsReady l.self;
  program : l.self.effects ≡ l.initial.self.effects;
  left : the_set l.self.sides 0 ≡ the_set l.initial.self.sides 0;
  swept : (into : Places) → the_set l.initial.self.sides 0 ≡ row_of l.initial.self.effects into → IsSwept l.initial.self.effects (stored l.initial.self.effects into (take l.value-index l.values)) (standing l.initial.self) l.self l.changed;
}
