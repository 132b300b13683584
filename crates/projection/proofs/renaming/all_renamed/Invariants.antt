use Rattle.std.proofs.Common.{◌≡◌, map, take}
use Rattle.bit_rows.specs.Sets.{has}
use Rattle.kept_numbers.specs.Ranks.{rank}
use Rattle.projection.specs.Renumbering.{renamed}
use Rattle.projection.proofs.renaming.all_renamed.Given as goal

abbrev pub invariant-loop-e : goal.invariant-loop-e
invariant-loop-e l = l.all ≡ map (renamed (rank (has l.variables))) (take l.e-index l.list)
