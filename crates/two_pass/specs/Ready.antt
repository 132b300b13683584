-- What a value of `Passes` is seen as, and what it keeps.
use Rattle.std.specs.Prelude.{◌≡◌, ◌↔◌, ℕ, ◌+◌, ◌<◌, ◌^◌, Bool, List, length, Contains, IsTrue}
use Rattle.bit_rows.specs.Sets.{has}
use Rattle.rule_closure.specs.Rules.{Derived, RuleSystem}
use Rattle.dep_model.specs.declared.edge.Edge.{Edge}
use Rattle.dep_model.specs.Words.{ReachesAny}

-- how many vertices a graph has, and its edges
pub record PassGraph : Type 0 where
  pub size : ℕ
  pub edges : List Edge

-- the set has the numbers of the list, and no others
abbrev pub HasMembers : List ℕ → List Bool → Type 0
HasMembers numbers s = (v : ℕ) → IsTrue (has s v) ↔ Contains numbers v

-- from a set of vertices, the rules derive the second number of exactly those that reach it
abbrev pub FindsReached : ℕ → List Edge → RuleSystem → Type 0
FindsReached n edges c =
    (s : List Bool) → ((v : ℕ) → IsTrue (has s v) → v < n) → (v : ℕ) → ReachesAny edges s v ↔ ((v < n) × Derived c.rules s (n + v))

-- the rules find what reaches a set, and there is room for the numbers of both passes
pub record IsReady (n : ℕ) (edges : List Edge) (c : RuleSystem) (marks : List Bool) : Type 0 where
  pub few : n + n < 2 ^ 32
  pub twice : c.size ≡ n + n
  pub room : length marks ≡ n + n
  pub finds : FindsReached n edges c
