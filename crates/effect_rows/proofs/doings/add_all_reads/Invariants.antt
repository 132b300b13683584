use Rattle.std.proofs.Common.{◌≡◌, length, take}
use Rattle.bit_rows.specs.Tables.{IsSized}
use Rattle.dep_model.specs.DoingEffects.{any_reads}
use Rattle.dep_model.specs.Locations.{locations}
use Rattle.effect_rows.specs.Gains.{with_places}
use Rattle.effect_rows.specs.Pointed.{points_in}
use Rattle.effect_rows.proofs.doings.add_all_reads.Given as goal

abbrev pub invariant-loop-e : goal.invariant-loop-e
invariant-loop-e l = record {
  gained : l.rows ≡ with_places l.g.program l.row (any_reads l.g.program (points_in l.g) (take l.e-index l.list)) l.initial.rows;
  size : IsSized (length l.initial.rows.sets) (length (locations l.g.program)) l.rows;
  scratch_size : IsSized 2 (length (locations l.g.program)) l.scratch;
}
