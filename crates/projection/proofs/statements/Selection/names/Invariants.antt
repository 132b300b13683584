use Rattle.std.proofs.Common.{◌≡◌, ◌++◌, drop}
use Rattle.bit_rows.specs.Sets.{has}
use Rattle.projection.specs.Kept.{chosen}
use Rattle.projection.proofs.statements.Selection.names.Given as goal

abbrev pub invariant-loop-place : goal.invariant-loop-place
invariant-loop-place l = l.all ++ chosen (has l.kept) l.place (drop l.place l.names) ≡ chosen (has l.kept) 0 l.names
