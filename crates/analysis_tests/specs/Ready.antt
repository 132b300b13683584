-- A program that can be analysed, and a graph of one that can be searched.
use Rattle.std.specs.Prelude.{◌<◌, ◌≤◌, ◌^◌, length}
use Rattle.c_tree.specs.declared.program.Program.{Program}
use Rattle.c_language.specs.Programs.{IsWellFormed}
use Rattle.dep_model.specs.declared.graph.Graph.{Graph}
use Rattle.dep_model.specs.Graphs.{IsGraphOf}
use Rattle.dep_model.specs.Shapes.{IsShaped}

-- a well-formed program with numbers for its functions
pub record IsReady (p : Program) : Type 0 where
  pub well_formed : IsWellFormed p
  pub few_functions : length p.functions < 2 ^ 32

-- the graph of a program, of few vertices and in the shape that the passes over it need
pub record IsGraphReady (p : Program) (g : Graph) : Type 0 where
  pub is_graph : IsGraphOf p g
  pub shaped : IsShaped g
  pub few : length g.vertices ≤ 65536
