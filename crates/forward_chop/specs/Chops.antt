-- What lists of vertices can influence, and through what: over the edges of a graph alone.
use Rattle.std.specs.Prelude.{◌≡◌, ℕ, List, ◌++◌, Contains}
use Rattle.dep_model.specs.declared.edge.Edge.{Edge}
use Rattle.dep_model.specs.Words.{Letter, word, IsPath, Rises, Falls, Reaches}

-- the forward slice of a list: a vertex that one of the list reaches
pub record IsForward (edges : List Edge) (from : List ℕ) (v : ℕ) : Type 0 where
  pub start : ℕ
  pub listed : Contains from start
  pub reaches : Reaches edges start v

-- the vertex reaches one of a list
pub record ReachesOne (edges : List Edge) (to : List ℕ) (v : ℕ) : Type 0 where
  pub goal : ℕ
  pub listed : Contains to goal
  pub reaches : Reaches edges v goal

-- the chop of two lists: a vertex on a path from one of the first to one of the second, whose whole word rises and then falls
pub record IsInChop (edges : List Edge) (from to : List ℕ) (v : ℕ) : Type 0 where
  pub start : ℕ
  pub begins : Contains from start
  pub goal : ℕ
  pub ends : Contains to goal
  pub front : List Edge
  pub back : List Edge
  pub front_joins : IsPath edges start front v
  pub back_joins : IsPath edges v back goal
  pub up : List Letter
  pub down : List Letter
  pub rises : Rises up
  pub falls : Falls down
  pub spells : word front ++ word back ≡ up ++ down
