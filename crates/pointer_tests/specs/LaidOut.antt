-- What the graph of a program is made from, by any rows of where its locations may point.
use Rattle.std.specs.Prelude.{◌≤◌, length}
use Rattle.c_tree.specs.declared.program.Program.{Program}
use Rattle.dep_model.specs.declared.skeleton.Skeleton.{Skeleton}
use Rattle.dep_model.specs.Graphs.{fact_words}
use Rattle.dep_model.specs.LocationLists.{location_list}
use Rattle.dep_model.specs.Skeletons.{IsSkeleton}
use Rattle.dep_model.specs.SystemGraph.{Analysis}

-- the skeleton that an analysis of a program gives, within the limits of graphs; the analysis says what it likes of pointers
pub record IsLaidOut (p : Program) (s : Skeleton) : Type 0 where
  pub analysis : Analysis
  pub is_skeleton : IsSkeleton p analysis s
  pub few_locations : length (location_list p) ≤ 4096
  pub few_vertices : length s.vertices ≤ 65536
  pub few_words : fact_words s.vertices ≤ 262144
