-- The facts of a graph on a board: workers share out an agenda of functions, and put what one step of each gives from what they know.
use Rattle.std.specs.Prelude.{◌≡◌, ◌↔◌, ◌==◌, ◌||◌, ℕ, ◌<◌, Bool, true, false, List, [], ◌∷◌, Contains}
use Rattle.std.specs.List.{AllPairs}
use Rattle.crew.specs.SharedWords.{Holds}
use Rattle.dep_model.specs.declared.graph.Graph.{Graph}
use Rattle.dep_model.specs.declared.vertex.Vertex.{Vertex}
use Rattle.dep_model.specs.Facts.{IsFactBit, HoldsFact, IsTrueFact, IsStep}
use Rattle.summary_edges.specs.Agendas.{IsDue}

-- bit n of the fact words is that of a true fact
pub record IsTrueBit (g : Graph) (n : ℕ) : Type 0 where
  pub from : ℕ
  pub to : ℕ
  pub is_bit : IsFactBit g from to n
  pub fact : IsTrueFact g from to

-- bit n is that of a fact that one step of a function gives from known words: the step of the machine
pub record IsStepBit (g : Graph) (f : ℕ) (known : List ℕ) (n : ℕ) : Type 0 where
  pub from : ℕ
  pub to : ℕ
  pub is_bit : IsFactBit g from to n
  pub given : IsStep g f (HoldsFact g known) from to

-- no bit is that of two facts
abbrev pub BitsAreApart : Graph → Type 0
BitsAreApart g = (a b c d bit : ℕ) → IsFactBit g a b bit → IsFactBit g c d bit → (a ≡ c) × (b ≡ d)

-- the words hold true facts alone
abbrev pub HoldTrueBits : Graph → List ℕ → Type 0
HoldTrueBits g ws = (n : ℕ) → Holds ws n → IsTrueBit g n

-- ---- agendas

-- whether one of the vertices is of the function
abbrev pub has_function : List Vertex → ℕ → Bool
has_function [] f = false
has_function (x ∷ xs) f = (x.function == f) || has_function xs f

-- a function of the graph
abbrev pub IsFunction : Graph → ℕ → Type 0
IsFunction g f = has_function g.vertices f ≡ true

-- the agenda of the first round: all functions
pub record IsFirstAgenda (g : Graph) (agenda : List ℕ) : Type 0 where
  pub ascending : AllPairs (λ f h. f < h) agenda
  pub all : (f : ℕ) → Contains agenda f ↔ IsFunction g f

-- the agenda of a later round: the functions that call one whose rows gained a fact in the round before, from the words at its
-- beginning to those at its end
pub record IsLaterAgenda (g : Graph) (before after agenda : List ℕ) : Type 0 where
  pub ascending : AllPairs (λ f h. f < h) agenda
  pub exact : (f : ℕ) → Contains agenda f ↔ IsDue g before after f
