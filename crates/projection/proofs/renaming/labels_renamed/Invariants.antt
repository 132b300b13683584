use Rattle.std.proofs.Common.{◌≡◌, map, take}
use Rattle.bit_rows.specs.Sets.{has}
use Rattle.kept_numbers.specs.Ranks.{rank}
use Rattle.projection.specs.Renumbering.{renamed_label}
use Rattle.projection.proofs.renaming.labels_renamed.Given as goal

abbrev pub invariant-loop-label : goal.invariant-loop-label
invariant-loop-label l = l.all ≡ map (renamed_label (rank (has l.variables))) (take l.label-index l.labels)
