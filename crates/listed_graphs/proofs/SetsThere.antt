-- What reaches a set of a program's vertices is a set, and each set has its completion.
use Rattle.std.proofs.Common.{◌<◌, List}
use Rattle.std.specs.Prelude.{length}
use Rattle.c_tree.specs.declared.program.Program.{Program}
use Rattle.dep_model.specs.declared.edge.Edge.{Edge}
use Rattle.dep_model.specs.SystemGraph.{Analysis, vertices_of, AreSystemEdges}
use Rattle.dep_model.proofs.Membership.{IsIn, contains_of_in}
use Rattle.listed_graphs.specs.Laws.{SetsAreReached, SetsHaveCompletions}
use Rattle.listed_graphs.proofs.Completions.{completion_there}
use Rattle.listed_graphs.proofs.Reached.{reached, reached_size, reached_exact}
use Rattle.listed_graphs.proofs.SystemEdges.{edge_within}

ends_within : (p : Program) (a : Analysis) (edges : List Edge) → AreSystemEdges p a edges → (e : Edge) → IsIn edges e → (e.from < length (vertices_of p a)) × (e.to < length (vertices_of p a))
ends_within p a edges are e at = let w = edge_within p a e ((are e).0 (contains_of_in edges e at)) in (w.from_in, w.to_in)

pub sets_reached : SetsAreReached
sets_reached p a edges s are long =
    let n = length (vertices_of p a) in
    let bound = ends_within p a edges are in
    (reached edges n bound s long, record { size = reached_size edges n bound s long; exact = reached_exact edges n bound s long })

pub sets_completed : SetsHaveCompletions
sets_completed p a edges s well are long = completion_there p a well edges are s long
