-- What makes slices of a program keeps: passes over the edges of the program's graph, and the closures of both.
use Rattle.std.specs.Prelude.{◌≡◌, length}
use Rattle.c_tree.specs.declared.program.Program.{Program}
use Rattle.c_tree.specs.Numbered.{Starts}
use Rattle.completion.specs.Closing.{Closing, Closes}
use Rattle.dep_model.specs.declared.facts.Facts.{Facts}
use Rattle.dep_model.specs.declared.graph.Graph.{Graph}
use Rattle.two_pass.specs.Ready.{PassGraph}
use Rattle.slice_engine.specs.Engine.{IsPrepared}

-- all is prepared of a program, and passes are made from its graph and the true facts of that
pub record IsPassing (p : Program) (g : Graph) (starts : Starts) (passes : PassGraph) : Type 0 where
  pub facts : Facts
  pub prepared : IsPrepared p g facts starts
  pub passes_are : passes ≡ record { size = length g.vertices; edges = g.edges }

-- and so are the closures
pub record IsSlicing (p : Program) (g : Graph) (starts : Starts) (passes : PassGraph) (closer : Closing) : Type 0 where
  pub passing : IsPassing p g starts passes
  pub closes : Closes p g closer
