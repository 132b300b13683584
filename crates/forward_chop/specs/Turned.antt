-- Rules turned round, and the forward passes: those of a graph, each of its rules turned round (Horwitz, Reps and Binkley 1990).
use Rattle.std.specs.Prelude.{◌≡◌, ◌↔◌, ℕ, ◌+◌, ◌<◌, ◌^◌, Bool, List, All, length, map, get_or, IsTrue}
use Rattle.bit_rows.specs.Sets.{has}
use Rattle.rule_closure.specs.declared.closure.Rule.{Rule}
use Rattle.rule_closure.specs.Rules.{Derived, RuleSystem}
use Rattle.dep_model.specs.declared.edge.Edge.{Edge}
use Rattle.dep_model.specs.Facts.{FactSet}
use Rattle.matched_paths.specs.Backward.{one_premise}
use Rattle.two_pass.specs.PassRules.{ArePassRules}
use Rattle.forward_chop.specs.Chops.{IsForward}

-- the premise and the conclusion exchanged
abbrev pub turn : Rule → Rule
turn r = one_premise r.gives r.first

-- the rules of the backward passes, turned round: of n vertices, v has the number n + v while paths rise, and v after that
pub record AreForwardRules (n : ℕ) (edges : List Edge) (K : FactSet) (turned : List Rule) : Type 0 where
  pub rules : List Rule
  pub are : ArePassRules n edges K rules
  pub turned_are : turned ≡ map turn rules

-- number k is n + v for a vertex v of the list
abbrev pub IsSecond : ℕ → List ℕ → ℕ → Type 0
IsSecond n list k = (i : ℕ) × (i < length list) × (k ≡ n + get_or list i 0)

-- begun at the second numbers of a list, the rules derive the first numbers of exactly its forward slice
abbrev pub FindsForward : ℕ → List Edge → RuleSystem → Type 0
FindsForward n edges c =
    (from : List ℕ) (s : List Bool) → All (λ v. v < n) from → ((k : ℕ) → IsTrue (has s k) ↔ IsSecond n from k) → (v : ℕ) → IsForward edges from v ↔ ((v < n) × Derived c.rules s v)

-- the rules find forward slices, and there is room for the numbers of both passes: what a value of `ForwardPasses` keeps
pub record AreForwardPasses (n : ℕ) (edges : List Edge) (c : RuleSystem) (marks : List Bool) : Type 0 where
  pub few : n + n < 2 ^ 32
  pub twice : c.size ≡ n + n
  pub room : length marks ≡ n + n
  pub finds : FindsForward n edges c
