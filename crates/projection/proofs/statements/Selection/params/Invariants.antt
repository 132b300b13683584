use Rattle.std.proofs.Common.{◌≡◌, ◌++◌, map, drop}
use Rattle.bit_rows.specs.Sets.{has}
use Rattle.kept_numbers.specs.Ranks.{rank}
use Rattle.projection.specs.Kept.{chosen}
use Rattle.projection.proofs.statements.Selection.params.Given as goal

abbrev pub invariant-loop-place : goal.invariant-loop-place
invariant-loop-place l =
    l.all ++ map (rank (has l.self.variables)) (chosen (has l.kept) l.place (drop l.place l.list)) ≡ map (rank (has l.self.variables)) (chosen (has l.kept) 0 l.list)
