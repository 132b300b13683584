-- Chops by contexts: ways into functions and results of the same calls between which the vertices of a chop stand (Reps and Rosay,
-- Precise interprocedural chopping, 1995).
use Rattle.std.specs.Prelude.{◌≡◌, ℕ, List, [], ◌∷◌, Contains}
use Rattle.dep_model.specs.declared.edge.Edge.{Edge}
use Rattle.dep_model.specs.declared.edge.Label.{Label}
use Rattle.dep_model.specs.Facts.{IsMatchedPath}
use Rattle.dep_model.specs.Graphs.{edge}
use Rattle.dep_model.specs.Words.{Letter, Open, Close, letters, word, IsPath, Rises, Falls}
use Rattle.forward_chop.specs.Chops.{IsForward, ReachesOne}

-- ---- what two lists rise and fall to
-- a vertex of the list rises to v
pub record IsRisenTo (edges : List Edge) (from : List ℕ) (v : ℕ) : Type 0 where
  pub start : ℕ
  pub listed : Contains from start
  pub path : List Edge
  pub joins : IsPath edges start path v
  pub rises : Rises (word path)

-- v falls to a vertex of the list
pub record FallsToOne (edges : List Edge) (to : List ℕ) (v : ℕ) : Type 0 where
  pub goal : ℕ
  pub listed : Contains to goal
  pub path : List Edge
  pub joins : IsPath edges v path goal
  pub falls : Falls (word path)

-- ---- pairs of a way in and a result
-- an edge from a to b with this letter
pub record HasLetter (edges : List Edge) (l : Letter) (a b : ℕ) : Type 0 where
  pub label : Label
  pub member : Contains edges (edge a b label)
  pub spells : letters label ≡ l ∷ []

-- one call is entered from a at x, and left from o to b
pub record IsCall (edges : List Edge) (a x o b : ℕ) : Type 0 where
  pub call : ℕ
  pub enters : HasLetter edges (Open call) a x
  pub leaves : HasLetter edges (Close call) o b

-- vertices between which a chop goes on: on its rising or its falling part
pub data IsAround (edges : List Edge) (from to : List ℕ) : ℕ → ℕ → Type 0 where
  rising : {a b : ℕ} → IsRisenTo edges from a → ReachesOne edges to b → IsAround edges from to a b
  falling : {a b : ℕ} → IsForward edges from a → FallsToOne edges to b → IsAround edges from to a b

-- a pair whose call stands on such a part
pub record IsFirstPair (edges : List Edge) (from to : List ℕ) (x o : ℕ) : Type 0 where
  pub before : ℕ
  pub behind : ℕ
  pub call : IsCall edges before x o behind
  pub here : IsAround edges from to before behind

-- a call that is entered from x and left to o, by matched paths
pub record IsInside (edges : List Edge) (x o y p : ℕ) : Type 0 where
  pub before : ℕ
  pub behind : ℕ
  pub call : IsCall edges before y p behind
  pub goes_in : IsMatchedPath edges x before
  pub comes_out : IsMatchedPath edges behind o

-- a pair is wanted: where its call stands on such a part, or inside of a wanted pair
pub data IsWanted (edges : List Edge) (from to : List ℕ) : ℕ → ℕ → Type 0 where
  outermost : {a x o b : ℕ} → IsCall edges a x o b → IsAround edges from to a b → IsWanted edges from to x o
  inside : {x o y p : ℕ} → IsWanted edges from to x o → IsInside edges x o y p → IsWanted edges from to y p

-- v stands on such a part, or on a matched path between a wanted pair
pub data IsByContexts (edges : List Edge) (from to : List ℕ) (v : ℕ) : Type 0 where
  around : IsAround edges from to v v → IsByContexts edges from to v
  between : {x o : ℕ} → IsWanted edges from to x o → IsMatchedPath edges x v → IsMatchedPath edges v o → IsByContexts edges from to v
