-- A whole graph, ready to be searched forward and backward in two passes each.
use Rattle.std.specs.Prelude.{◌≡◌, ◌↔◌, ℕ, ◌+◌, ◌<◌, ◌^◌, Bool, List, All, length, IsTrue}
use Rattle.bit_rows.specs.Sets.{has}
use Rattle.rule_closure.specs.Rules.{Derived, RuleSystem}
use Rattle.dep_model.specs.declared.edge.Edge.{Edge}
use Rattle.dep_model.specs.declared.graph.Graph.{Graph}
use Rattle.forward_chop.specs.declared.field.Field.{Field}
use Rattle.forward_chop.specs.declared.wanted.Wanted.{Wanted}
use Rattle.forward_chop.specs.Chops.{IsForward, ReachesOne}
use Rattle.forward_chop.specs.Contexts.{IsRisenTo, FallsToOne}
use Rattle.forward_chop.specs.Pairs.{IsLaid}
use Rattle.forward_chop.specs.Rounds.{AreParts, CoversCalls, IsIndex}
use Rattle.forward_chop.specs.Turned.{IsSecond}

-- begun at the second numbers of a list, the rules derive the second number of what it rises to, and the first of its forward slice
abbrev pub FindsAhead : ℕ → List Edge → RuleSystem → Type 0
FindsAhead n edges c =
    (from : List ℕ) (s : List Bool) → All (λ v. v < n) from → ((k : ℕ) → IsTrue (has s k) ↔ IsSecond n from k)
    → (v : ℕ) → v < n → (Derived c.rules s (n + v) ↔ IsRisenTo edges from v) × (Derived c.rules s v ↔ IsForward edges from v)

-- begun at the first numbers of a list, the rules derive the first number of what falls to it, and the second of what reaches it
abbrev pub FindsBehind : ℕ → List Edge → RuleSystem → Type 0
FindsBehind n edges c =
    (to : List ℕ) (s : List Bool) → All (λ v. v < n) to → ((k : ℕ) → IsTrue (has s k) ↔ IsSecond 0 to k)
    → (v : ℕ) → v < n → (Derived c.rules s v ↔ FallsToOne edges to v) × (Derived c.rules s (n + v) ↔ ReachesOne edges to v)

pub record IsWhole (g : Graph) (f : Field) : Type 0 where
  pub first_is : f.range.first ≡ 0
  pub last_is : f.range.last ≡ length g.vertices
  pub few : length g.vertices + length g.vertices < 2 ^ 32
  pub ahead_size : f.ahead.size ≡ length g.vertices + length g.vertices
  pub behind_size : f.behind.size ≡ length g.vertices + length g.vertices
  pub reached_long : length f.reached ≡ length g.vertices + length g.vertices
  pub reaching_long : length f.reaching ≡ length g.vertices + length g.vertices
  pub ahead : FindsAhead (length g.vertices) g.edges f.ahead
  pub behind : FindsBehind (length g.vertices) g.edges f.behind

-- what a value of `Chopper` keeps
pub record IsReady (g : Graph) (starts exits : List (List Edge)) (field : Field) (fields : List Field) (w : Wanted) : Type 0 where
  pub index : IsIndex g starts exits
  pub whole : IsWhole g field
  pub parts : AreParts g fields
  pub laid : IsLaid w
  pub all : length w.outs.items ≡ length g.vertices
  pub covered : CoversCalls g.edges w
