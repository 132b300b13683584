-- The two passes over a graph as rules (Horwitz, Reps and Binkley 1990): of n vertices, v has the number v in the first pass and n + v in
-- the second.
use Rattle.std.specs.Prelude.{◌≡◌, ◌↔◌, ℕ, ◌+◌, ◌<◌, Bool, true, false, cond, List, [], ◌∷◌, ◌++◌, Contains}
use Rattle.rule_closure.specs.declared.closure.Rule.{Rule}
use Rattle.dep_model.specs.declared.edge.Edge.{Edge}
use Rattle.dep_model.specs.declared.edge.Label.{Label}
use Rattle.dep_model.specs.declared.edge.Label.TheVariants.{Control, Flow, Call, In, Out}
use Rattle.dep_model.specs.Facts.{FactSet, IsInnerEdge}
use Rattle.dep_model.specs.Graphs.{edge}
use Rattle.matched_paths.specs.Backward.{one_premise}

-- what is marked with the number j marks the one with the number k: both passes go back along edges inside functions, the first one
-- also over edges that enter calls and never into a function called, the second one over edges that leave calls and never back to a
-- caller; it begins at all that the first one marks
pub data GoesBack (n : ℕ) (edges : List Edge) (K : FactSet) : ℕ → ℕ → Type 0 where
  first : {u v : ℕ} → IsInnerEdge edges K u v → GoesBack n edges K v u
  second : {u v : ℕ} → IsInnerEdge edges K u v → GoesBack n edges K (n + v) (n + u)
  call : {u v : ℕ} (c : ℕ) → Contains edges (edge u v (Call c)) → GoesBack n edges K v u
  in_ : {u v : ℕ} (c : ℕ) → Contains edges (edge u v (In c)) → GoesBack n edges K v u
  out : {u v : ℕ} (c : ℕ) → Contains edges (edge u v (Out c)) → GoesBack n edges K (n + v) (n + u)
  turn : {v : ℕ} → v < n → GoesBack n edges K v (n + v)

pub record IsPassRule (n : ℕ) (edges : List Edge) (K : FactSet) (r : Rule) : Type 0 where
  pub one : r.second ≡ r.first
  pub goes : GoesBack n edges K r.first r.gives

-- exactly the rules of the passes
abbrev pub ArePassRules : ℕ → List Edge → FactSet → List Rule → Type 0
ArePassRules n edges K rules = (r : Rule) → Contains rules r ↔ IsPassRule n edges K r

-- ---- the rules of an edge
-- whether the first pass goes back along an edge of this label
abbrev pub goes_first : Label → Bool
goes_first Control = true
goes_first Flow = true
goes_first (Call c) = true
goes_first (In c) = true
goes_first (Out c) = false

-- and whether the second one does
abbrev pub goes_second : Label → Bool
goes_second Control = true
goes_second Flow = true
goes_second (Call c) = false
goes_second (In c) = false
goes_second (Out c) = true

abbrev pub edge_rules : ℕ → Edge → List Rule
edge_rules n e =
    cond (goes_first e.label) (one_premise e.to e.from ∷ []) [] ++ cond (goes_second e.label) (one_premise (n + e.to) (n + e.from) ∷ []) []

-- the rule from a vertex of the first pass to the second
abbrev pub turn_rule : ℕ → ℕ → Rule
turn_rule n v = one_premise v (n + v)
