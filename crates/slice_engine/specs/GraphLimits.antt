-- The quantities of a program's graph that have a greatest number.
use Rattle.std.specs.Prelude.{◌<◌, ◌≤◌, length}
use Rattle.c_tree.specs.declared.limits.LimitName.{LimitName}
use Rattle.c_tree.specs.declared.limits.LimitName.TheVariants as limit
use Rattle.c_tree.specs.declared.program.Program.{Program}
use Rattle.dep_model.specs.Graphs.{fact_words}
use Rattle.dep_model.specs.LocationLists.{location_list}
use Rattle.dep_model.specs.SystemGraph.{Analysis, IsAnalysis, vertices_of}

-- a quantity of the program's graph is above its number: its locations before all, then its vertices, then the words of its facts
pub data IsAboveGraphLimit (p : Program) : LimitName → Type 0 where
  locations : 4096 < length (location_list p) → IsAboveGraphLimit p limit.Locations
  vertices : {a : Analysis} → length (location_list p) ≤ 4096 → IsAnalysis p a → 65536 < length (vertices_of p a) → IsAboveGraphLimit p limit.Vertices
  words : {a : Analysis} → length (location_list p) ≤ 4096 → IsAnalysis p a → length (vertices_of p a) ≤ 65536 → 262144 < fact_words (vertices_of p a) → IsAboveGraphLimit p limit.FactWords
