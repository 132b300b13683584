-- A row that gains locations has each at its place.
use Rattle.std.proofs.Common.{◌||◌, sym, ap, ◌∙◌}
use Rattle.std.proofs.lemmas.List.{length-map}
use Rattle.bit_rows.specs.Sets.{has, union}
use Rattle.bit_rows.specs.Tables.{the_set}
use Rattle.bit_rows.proofs.SetLemmas.{has-union}
use Rattle.bit_rows.proofs.TableLemmas.{the_set-with_set, other-with_set}
use Rattle.dep_model.specs.Locations.{locations}
use Rattle.effect_rows.specs.Gains.{row_of}
use Rattle.effect_rows.specs.Laws.{RowsGainByPlace}
use Rattle.effect_rows.proofs.StepRows.{has_row_of}

pub gains_by_place : RowsGainByPlace
gains_by_place p r places t row = record {
  gained = λ k o at.
      ap (λ s. has s k) (the_set-with_set t r (union (the_set t r) (row_of p places)) row.row_in)
      ∙ has-union (the_set t r) (row_of p places) k (row.sized.full r row.row_in ∙ sym (length-map (locations p) (λ q. places q.location)))
      ∙ ap (λ b. has (the_set t r) k || b) (has_row_of p places k o at);
  others = λ s apart. other-with_set t r s (union (the_set t r) (row_of p places)) apart;
}
