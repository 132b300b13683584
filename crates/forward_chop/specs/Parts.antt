-- The functions of a graph, each ready to be searched.
use Rattle.std.specs.Prelude.{◌≡◌, ℕ, ◌<◌, List, length, map, Some, slice_get}
use Rattle.rule_closure.specs.declared.closure.Rule.{Rule}
use Rattle.dep_model.specs.declared.graph.Graph.{Graph}
use Rattle.dep_model.specs.Facts.{HoldsFact}
use Rattle.matched_paths.specs.StepRules.{AreStepRules}
use Rattle.matched_paths.specs.declared.vertex_range.VertexRange.{VertexRange}
use Rattle.matched_paths.specs.VertexRanges.{IsInRange, IsWholeFunction}
use Rattle.forward_chop.specs.declared.field.Field.{Field}
use Rattle.forward_chop.specs.Rounds.{IsPart}
use Rattle.forward_chop.specs.Turned.{turn}

-- vertices with rules, and with these turned round
pub record IsFieldOf (range : VertexRange) (size : ℕ) (rules : List Rule) (f : Field) : Type 0 where
  pub range_is : f.range ≡ range
  pub ahead_is : f.ahead ≡ record { size = size; rules = map turn rules }
  pub behind_is : f.behind ≡ record { size = size; rules = rules }
  pub reached_long : length f.reached ≡ size
  pub reaching_long : length f.reaching ≡ size

-- the rules of the function of a range, if that is a whole function, which begins with its first vertex
abbrev pub AreRulesOf : Graph → List ℕ → VertexRange → List Rule → Type 0
AreRulesOf g ws s rules = (whole : IsWholeFunction g.vertices s) → s.first < s.last → AreStepRules g (HoldsFact g ws) whole.function s.first rules

-- functions that have all vertices below n
pub record AreFirstParts (g : Graph) (parts : List Field) (n : ℕ) : Type 0 where
  pub each : (k : ℕ) (p : Field) → slice_get parts k ≡ Some p → IsPart g p
  pub all : (x : ℕ) → x < n → (k : ℕ) × ((p : Field) × (slice_get parts k ≡ Some p) × IsInRange p.range x)
