-- The graphs of well-formed programs have the shape that the passes over them need.
use Rattle.std.specs.Prelude.{◌≤◌, length}
use Rattle.c_tree.specs.declared.program.Program.{Program}
use Rattle.c_language.specs.Programs.{IsWellFormed}
use Rattle.dep_model.specs.declared.graph.Graph.{Graph}
use Rattle.dep_model.specs.Graphs.{IsGraphOf}
use Rattle.dep_model.specs.Shapes.{IsShaped}

-- the graph of a well-formed program, with vertices and fact words within their numbers, is shaped
abbrev pub GraphsAreShaped : Type 0
GraphsAreShaped = (p : Program) (g : Graph) → IsWellFormed p → IsGraphOf p g → length g.vertices ≤ 65536 → g.fact_words ≤ 262144 → IsShaped g
