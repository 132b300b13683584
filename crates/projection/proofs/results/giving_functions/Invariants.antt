use Rattle.std.proofs.Common.{◌≡◌, map, take}
use Rattle.bit_rows.specs.Sets.{has}
use Rattle.projection.specs.KeptVertices.{still_gives}
use Rattle.projection.proofs.results.giving_functions.Given as goal

abbrev pub invariant-loop-function : goal.invariant-loop-function
invariant-loop-function l = l.gives.items ≡ map (still_gives (has l.parts.statements.items)) (take l.function-index l.list)
