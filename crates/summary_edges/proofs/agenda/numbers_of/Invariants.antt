use Rattle.std.proofs.Common.{◌≡◌, map, take}
use Rattle.summary_edges.specs.Agendas.{number_at}
use Rattle.summary_edges.proofs.agenda.numbers_of.Given as goal

abbrev pub invariant-loop-place : goal.invariant-loop-place
invariant-loop-place l = l.numbers.items ≡ map (number_at l.g l.parts) (take l.place-index l.places)
