use Rattle.matched_paths.proofs.Numbering.{IsNumbering}
use Rattle.matched_paths.proofs.fact_places.formal_numbers.Given as goal

abbrev pub invariant-loop-vertex : goal.invariant-loop-vertex
invariant-loop-vertex l = IsNumbering l.vertices l.vertex-index l.function l.number l.numbers.items
