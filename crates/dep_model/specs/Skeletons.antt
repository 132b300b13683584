-- The skeleton of a program: its vertices, with rows of the locations that each may define, may use and kills.
use Rattle.std.specs.Prelude.{◌≡◌}
use Rattle.c_tree.specs.declared.program.Program.{Program}
use Rattle.dep_model.specs.declared.skeleton.Skeleton.{Skeleton}
use Rattle.dep_model.specs.LocationRows.{AreRows}
use Rattle.dep_model.specs.SystemGraph.{Analysis, vertices_of}
use Rattle.dep_model.specs.VertexOrder.{vertex_effects}

-- The skeleton is that of the program: its vertices in their order, and what each defines, uses and kills.
pub record IsSkeleton (p : Program) (a : Analysis) (s : Skeleton) : Type 0 where
  pub vertices_are : s.vertices ≡ vertices_of p a
  pub defined_are : AreRows p (vertices_of p a) (vertex_effects p a.points).defines s.defined
  pub used_are : AreRows p (vertices_of p a) (vertex_effects p a.points).uses s.used
  pub killed_are : AreRows p (vertices_of p a) (vertex_effects p a.points).kills s.killed
