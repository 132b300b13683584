-- What the graph of a program is made from.
use Rattle.std.specs.Prelude.{◌≤◌, length}
use Rattle.c_tree.specs.declared.program.Program.{Program}
use Rattle.c_language.specs.Programs.{IsWellFormed}
use Rattle.dep_model.specs.declared.skeleton.Skeleton.{Skeleton}
use Rattle.dep_model.specs.Graphs.{fact_words}
use Rattle.dep_model.specs.LocationLists.{location_list}
use Rattle.dep_model.specs.Skeletons.{IsSkeleton}
use Rattle.dep_model.specs.SystemGraph.{Analysis, IsAnalysis}

-- a well-formed program within the limits of graphs, and the skeleton that its analysis gives
pub record HasSkeleton (p : Program) (s : Skeleton) : Type 0 where
  pub well_formed : IsWellFormed p
  pub analysis : Analysis
  pub is_analysis : IsAnalysis p analysis
  pub is_skeleton : IsSkeleton p analysis s
  pub few_locations : length (location_list p) ≤ 4096
  pub few_vertices : length s.vertices ≤ 65536
  pub few_words : fact_words s.vertices ≤ 262144
