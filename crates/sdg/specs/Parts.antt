-- The graphs of a program's functions, one after another.
use Rattle.std.specs.Prelude.{◌≡◌, ℕ, List, length, Some, slice_get}
use Rattle.c_tree.specs.declared.program.Program.{Program}
use Rattle.dep_model.specs.declared.graph.FunctionGraph.{FunctionGraph}
use Rattle.dep_model.specs.Graphs.{IsFunctionGraph}
use Rattle.dep_model.specs.SystemGraph.{Analysis}

-- for each function, in their order, its graph
pub record AreFunctionGraphs (p : Program) (a : Analysis) (parts : List FunctionGraph) : Type 0 where
  pub for_each : length parts ≡ length p.functions
  pub graph_is : (f : ℕ) (g : FunctionGraph) → slice_get parts f ≡ Some g → IsFunctionGraph p a f g
