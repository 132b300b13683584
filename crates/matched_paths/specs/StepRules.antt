-- The rules by which one function is gone through backward. Its vertices are numbered from its first one on.
use Rattle.std.specs.Prelude.{◌≡◌, ◌↔◌, ℕ, ◌-◌, ◌≤◌, ◌&&◌, if◌then◌else◌, Bool, false, List, [], ◌∷◌, length, slice_get, flat_map, Contains, IsTrue}
use Rattle.std.specs.Option.{option_map_or}
use Rattle.bit_rows.specs.Sets.{has}
use Rattle.rule_closure.specs.declared.closure.Rule.{Rule}
use Rattle.dep_model.specs.declared.edge.Edge.{Edge}
use Rattle.dep_model.specs.declared.edge.Label.{Label}
use Rattle.dep_model.specs.declared.edge.Label.TheVariants.{Control, Flow, Call, In, Out}
use Rattle.dep_model.specs.declared.graph.Graph.{Graph}
use Rattle.dep_model.specs.declared.vertex.Slot.{Slot}
use Rattle.dep_model.specs.declared.vertex.Vertex.{Vertex}
use Rattle.dep_model.specs.declared.vertex.VertexKind.TheVariants.{FormalOut}
use Rattle.dep_model.specs.Facts.{FactSet, IsIn, IsInnerEdge, IsInnerChain}
use Rattle.dep_model.specs.FunctionVertices.{is_formal_in}
use Rattle.dep_model.specs.SystemGraph.{IsVertex}
use Rattle.matched_paths.specs.Backward.{one_premise}
use Rattle.matched_paths.specs.EdgeGroups.{group_at}
use Rattle.matched_paths.specs.Places.{Places, holds_fact}
use Rattle.matched_paths.specs.declared.vertex_range.VertexRange.{VertexRange}
use Rattle.matched_paths.specs.VertexRanges.{within, IsWholeFunction}

-- ---- as they are made

-- the rule from v back to u, where both are of the function
abbrev pub inner_rules : VertexRange → ℕ → ℕ → List Rule
inner_rules s u v = if within s u && within s v then one_premise (v - s.first) (u - s.first) ∷ [] else []

-- the rules of the call that `enter` enters and `leave` leaves, where the words hold the fact between them
abbrev pub crossing_rules : VertexRange → List ℕ → Places → Edge → Edge → List Rule
crossing_rules s ws t enter leave = if holds_fact t ws enter.to leave.from then inner_rules s enter.from leave.to else []

abbrev pub rules_by : Label → VertexRange → List (List Edge) → List ℕ → Places → Edge → List Rule
rules_by Control s exits ws t e = inner_rules s e.from e.to
rules_by Flow s exits ws t e = inner_rules s e.from e.to
rules_by (Call c) s exits ws t e = []
rules_by (In c) s exits ws t e = flat_map (crossing_rules s ws t e) (group_at exits c)
rules_by (Out c) s exits ws t e = []

-- the rules of an edge
abbrev pub step_rules : VertexRange → List (List Edge) → List ℕ → Places → Edge → List Rule
step_rules s exits ws t e = rules_by e.label s exits ws t e

-- ---- what they say

-- what is marked with the number j marks the one with the number k: from a vertex of the function back along an inner edge
pub record GoesBack (g : Graph) (K : FactSet) (f first j k : ℕ) : Type 0 where
  pub from : ℕ
  pub to : ℕ
  pub from_in : IsIn g.vertices f from
  pub to_in : IsIn g.vertices f to
  pub along : IsInnerEdge g.edges K from to
  pub j_is : j ≡ to - first
  pub k_is : k ≡ from - first

pub record IsStepRule (g : Graph) (K : FactSet) (f first : ℕ) (r : Rule) : Type 0 where
  pub one : r.second ≡ r.first
  pub goes : GoesBack g K f first r.first r.gives

-- exactly the rules of the function
abbrev pub AreStepRules : Graph → FactSet → ℕ → ℕ → List Rule → Type 0
AreStepRules g K f first rules = (r : Rule) → Contains rules r ↔ IsStepRule g K f first r

-- the rules go back from one number to another
pub data IsBack (rules : List Rule) (n : ℕ) : ℕ → Type 0 where
  itself : IsBack rules n n
  by : {r : Rule} → Contains rules r → IsBack rules n r.first → IsBack rules n r.second → IsBack rules n r.gives

-- the rules are those of the function of a range
pub record IsReady (g : Graph) (K : FactSet) (s : VertexRange) (rules : List Rule) : Type 0 where
  pub whole : IsWholeFunction g.vertices s
  pub order : s.first ≤ s.last
  pub inside : s.last ≤ length g.vertices
  pub rules_are : AreStepRules g K whole.function s.first rules

-- the marks are those of the vertices of the range's function from which inner chains lead to b, a formal-out
pub record AreMarked (g : Graph) (K : FactSet) (s : VertexRange) (marks : List Bool) (b : ℕ) : Type 0 where
  pub whole : IsWholeFunction g.vertices s
  pub order : s.first ≤ s.last
  pub inside : s.last ≤ length g.vertices
  pub size : length marks ≡ s.last - s.first
  pub slot : Slot
  pub out : IsVertex g.vertices whole.function (FormalOut slot) b
  pub chains : (v : ℕ) → IsIn g.vertices whole.function v → IsTrue (has marks (v - s.first)) ↔ IsInnerChain g K whole.function v b

-- whether a vertex is a formal-in whose number is marked
abbrev pub sees : List Vertex → VertexRange → List Bool → ℕ → Bool
sees vs s marks v = option_map_or (λ (x : Vertex). is_formal_in x.kind) (slice_get vs v) false && has marks (v - s.first)
