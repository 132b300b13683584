use Rattle.std.proofs.Common.{◌≡◌, ◌≤◌, ◌-◌}
use Rattle.bit_rows.specs.Tables.{the_set}
use Rattle.points_to.proofs.NotedLemmas.{IsNotedBelow}
use Rattle.points_to.proofs.agenda.Agenda.note.Given as goal

abbrev pub invariant-loop-place : goal.invariant-loop-place
invariant-loop-place l = record {
  noted : IsNotedBelow l.place l.k l.read.bits l.initial.self.readers.bits (the_set l.read l.row) l.initial.self.readers l.self.readers;
  within : l.place ≤ l.count;
  settled : l.self.settled ≡ l.initial.self.settled;
}

abbrev pub decreases-loop-place : goal.decreases-loop-place
decreases-loop-place l = l.count - l.place
