-- Laws of chops, for every list of edges.
use Rattle.std.specs.Prelude.{◌↔◌, ℕ, List}
use Rattle.dep_model.specs.declared.edge.Edge.{Edge}
use Rattle.forward_chop.specs.Chops.{IsForward, ReachesOne, IsInChop}
use Rattle.forward_chop.specs.Contexts.{IsByContexts}

-- a vertex is in a chop exactly where it stands in one of its contexts
abbrev pub ChopsAreByContexts : Type 0
ChopsAreByContexts = (edges : List Edge) (from to : List ℕ) (v : ℕ) → IsInChop edges from to v ↔ IsByContexts edges from to v

-- a chop lies in the forward slice of its first list, and in what reaches its second
abbrev pub ChopsLieInBoth : Type 0
ChopsLieInBoth = (edges : List Edge) (from to : List ℕ) (v : ℕ) → IsInChop edges from to v → IsForward edges from v × ReachesOne edges to v
