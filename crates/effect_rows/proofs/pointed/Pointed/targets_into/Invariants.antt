-- The row has where the first locations lead.
use Rattle.std.proofs.Common.{◌≡◌, length}
use Rattle.bit_rows.specs.Tables.{IsSized, the_set}
use Rattle.dep_model.specs.Denoted.{Places}
use Rattle.dep_model.specs.Locations.{locations}
use Rattle.effect_rows.specs.Gains.{row_of}
use Rattle.effect_rows.specs.Pointed.{points_in}
use Rattle.effect_rows.proofs.LedRows.{first_led}
use Rattle.effect_rows.proofs.pointed.Pointed.targets_into.Given as goal

abbrev pub invariant-loop-k : goal.invariant-loop-k
invariant-loop-k l = record {
  end : l.k-end ≡ length (locations l.self.program);
  sized : IsSized 2 (length (locations l.self.program)) l.scratch;
  kept : the_set l.scratch l.from ≡ the_set l.fn.scratch l.from;
  led : (a : Places) → the_set l.fn.scratch l.from ≡ row_of l.self.program a → the_set l.scratch l.to ≡ row_of l.self.program (first_led l.self.program (points_in l.self) a l.k);
}
