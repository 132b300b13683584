use Rattle.std.proofs.Common.{◌≡◌, ◌++◌, map, drop}
use Rattle.bit_rows.specs.Sets.{has}
use Rattle.kept_numbers.specs.Ranks.{rank}
use Rattle.projection.specs.Kept.{chosen}
use Rattle.projection.specs.Renumbering.{renamed}
use Rattle.projection.proofs.statements.Selection.arguments.Given as goal

abbrev pub invariant-loop-place : goal.invariant-loop-place
invariant-loop-place l =
    l.all ++ map (renamed (rank (has l.self.variables))) (chosen (has l.kept) l.place (drop l.place l.args)) ≡ map (renamed (rank (has l.self.variables))) (chosen (has l.kept) 0 l.args)
