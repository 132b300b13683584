-- Paths of a graph, their words, and what is reached by matched words.
use Rattle.std.specs.Prelude.{ℕ, ◌≡◌, Bool, List, [], ◌∷◌, ◌++◌, Contains, IsTrue}
use Rattle.bit_rows.specs.Sets.{has}
use Rattle.dep_model.specs.declared.edge.Edge.{Edge}
use Rattle.dep_model.specs.declared.edge.Label.{Label}
use Rattle.dep_model.specs.declared.edge.Label.TheVariants.{Control, Flow, Call, In, Out}

-- a letter opens or closes a call, by the call's vertex
pub data Letter : Type 0 where
  Open : ℕ → Letter
  Close : ℕ → Letter

-- the letters of an edge: a call is opened where it is entered, and closed where it returns
abbrev pub letters : Label → List Letter
letters Control = []
letters Flow = []
letters (Call c) = Open c ∷ []
letters (In c) = Open c ∷ []
letters (Out c) = Close c ∷ []

-- the letters along a path
abbrev pub word : List Edge → List Letter
word [] = []
word (e ∷ es) = letters e.label ++ word es

-- a path from a to b is a list of edges, each from where the one before ends
abbrev pub IsPath : List Edge → ℕ → List Edge → ℕ → Type 0
IsPath edges a [] b = a ≡ b
IsPath edges a (e ∷ es) b = Contains edges e × (e.from ≡ a) × IsPath edges e.to es b

-- opens and closes pair by call
pub data Matched : List Letter → Type 0 where
  empty : Matched []
  pair : (c : ℕ) {w : List Letter} → Matched w → Matched (Open c ∷ (w ++ Close c ∷ []))
  both : {w x : List Letter} → Matched w → Matched x → Matched (w ++ x)

-- (matched or close)*
pub data Rises : List Letter → Type 0 where
  flat : Rises []
  level : {w x : List Letter} → Matched w → Rises x → Rises (w ++ x)
  close : (c : ℕ) {x : List Letter} → Rises x → Rises (Close c ∷ x)

-- (matched or open)*
pub data Falls : List Letter → Type 0 where
  flat : Falls []
  level : {w x : List Letter} → Matched w → Falls x → Falls (w ++ x)
  open_ : (c : ℕ) {x : List Letter} → Falls x → Falls (Open c ∷ x)

-- a path from one vertex to another whose word rises and then falls
pub record Reaches (edges : List Edge) (a b : ℕ) : Type 0 where
  pub path : List Edge
  pub joins : IsPath edges a path b
  pub up : List Letter
  pub down : List Letter
  pub rises : Rises up
  pub falls : Falls down
  pub spells : word path ≡ up ++ down

-- such a path leads to one of a set
pub record ReachesAny (edges : List Edge) (s : List Bool) (a : ℕ) : Type 0 where
  pub goal : ℕ
  pub wanted : IsTrue (has s goal)
  pub reaches : Reaches edges a goal
