-- For each vertex of a function the formal-outs that it reaches inside.
use Rattle.std.specs.Prelude.{◌≡◌, ◌≢◌, ◌↔◌, ℕ, ◌+◌, ◌-◌, ◌<◌, ◌≤◌, ◌⊎◌, ◌||◌, if◌then◌else◌, Bool, true, false, List, length, set, Contains, slice_get}
use Rattle.std.specs.Option.{option_map_or}
use Rattle.bit_rows.specs.Sets.{has}
use Rattle.bit_rows.specs.Tables.{the_set, Holds, IsSized, IsGrown}
use Rattle.dep_model.specs.declared.edge.Edge.{Edge}
use Rattle.dep_model.specs.declared.edge.Label.{Label}
use Rattle.dep_model.specs.declared.edge.Label.TheVariants.{Control, Flow, Call, In, Out}
use Rattle.dep_model.specs.declared.graph.Graph.{Graph}
use Rattle.dep_model.specs.declared.graph.OutRow.{OutRow}
use Rattle.dep_model.specs.Facts.{FactSet, HoldsFact, IsInnerEdge, IsInnerChain}
use Rattle.dep_model.specs.Graphs.{edge}
use Rattle.matched_paths.specs.VertexRanges.{IsInRange}
use Rattle.summary_edges.specs.declared.exit_rows.ExitRows.{ExitRows}
use Rattle.summary_edges.specs.declared.function_parts.FunctionPart.{FunctionPart}
use Rattle.summary_edges.specs.FunctionParts.{IsPart}

-- as many flags as rows
pub record IsTable (x : ExitRows) : Type 0 where
  pub sized : IsSized (length x.rows.sets) x.rows.bits x.rows
  pub flags : length x.fresh.items ≡ length x.rows.sets

-- there are rows for all vertices of a function, and bits for all its formal-outs
pub record HasRoom (p : FunctionPart) (x : ExitRows) : Type 0 where
  pub table : IsTable x
  pub vertices : p.range.last - p.range.first ≤ length x.rows.sets
  pub exits : p.last_row - p.first_row ≤ x.rows.bits

-- two tables have the same rows and bits
pub record HaveOneShape (old new : ExitRows) : Type 0 where
  pub table : IsTable new
  pub rows_are : length new.rows.sets ≡ length old.rows.sets
  pub bits_are : new.rows.bits ≡ old.rows.bits

-- row i has gained what row j has, and is to be taken again where it grows
pub record IsJoined (i j : ℕ) (old new : ExitRows) (grows : Bool) : Type 0 where
  pub shape : HaveOneShape old new
  pub grown : IsGrown old.rows new.rows grows
  pub here : (k : ℕ) → has (the_set new.rows i) k ≡ (has (the_set old.rows i) k || has (the_set old.rows j) k)
  pub others : (m : ℕ) → m ≢ i → the_set new.rows m ≡ the_set old.rows m
  pub flags : new.fresh.items ≡ (if grows then set old.fresh.items i true else old.fresh.items)

-- some rows have gained what row i has, and those that grew are to be taken again
pub record HasSpread (gains : ℕ → Type 0) (i : ℕ) (old new : ExitRows) (grows : Bool) : Type 0 where
  pub shape : HaveOneShape old new
  pub grown : IsGrown old.rows new.rows grows
  pub none : grows ≡ false → new.fresh.items ≡ old.fresh.items
  pub source : the_set new.rows i ≡ the_set old.rows i
  pub from : (j k : ℕ) → Holds new.rows j k → Holds old.rows j k ⊎ (gains j × Holds old.rows i k)
  pub flags : (j : ℕ) → has old.fresh.items j ≡ true → has new.fresh.items j ≡ true
  pub others : (j : ℕ) → has new.fresh.items j ≡ false → the_set new.rows j ≡ the_set old.rows j

-- row j has all that row i has
abbrev pub IsAbove : ExitRows → ℕ → ℕ → Type 0
IsAbove x j i = (k : ℕ) → Holds x.rows i k → Holds x.rows j k

-- an edge, or the call that it leaves, is an inner edge from u
abbrev pub gives : Label → List Edge → FactSet → Edge → ℕ → Type 0
gives Control edges K e u = u ≡ e.from
gives Flow edges K e u = u ≡ e.from
gives (Call c) edges K e u = ⊥
gives (In c) edges K e u = ⊥
gives (Out c) edges K e u = (x : ℕ) × Contains edges (edge u x (In c)) × K x e.from

-- formal-out k of a function, in the order of the rows
abbrev pub exit_at : Graph → FunctionPart → ℕ → ℕ
exit_at g p k = option_map_or (λ (r : OutRow). r.vertex) (slice_get g.outs (p.first_row + k)) 0

-- the rows say nothing that isn't so, each formal-out reaches itself, and what a vertex that isn't to be taken reaches, those before
-- it reach
pub record IsFilling (g : Graph) (K : FactSet) (p : FunctionPart) (x : ExitRows) : Type 0 where
  pub part : IsPart g p
  pub room : HasRoom p x
  pub sound : (v k : ℕ) → IsInRange p.range v → Holds x.rows (v - p.range.first) k → (k < p.last_row - p.first_row) × IsInnerChain g K part.whole.function v (exit_at g p k)
  pub seeded : (k : ℕ) → k < p.last_row - p.first_row → Holds x.rows (exit_at g p k - p.range.first) k
  pub closed : (u v : ℕ) → IsInRange p.range u → IsInRange p.range v → IsInnerEdge g.edges K u v → has x.fresh.items (v - p.range.first) ≡ false → IsAbove x (u - p.range.first) (v - p.range.first)

-- the same, and no vertex of the function is to be taken again
pub record IsFilled (g : Graph) (K : FactSet) (p : FunctionPart) (x : ExitRows) : Type 0 where
  pub filling : IsFilling g K p x
  pub down : (v : ℕ) → IsInRange p.range v → has x.fresh.items (v - p.range.first) ≡ false

-- the rows are filled by the facts that some words hold, but for news: by those of words from which they differ in the news
pub record LacksNews (g : Graph) (p : FunctionPart) (news known : List ℕ) (x : ExitRows) : Type 0 where
  pub before : List ℕ
  pub filled : IsFilled g (HoldsFact g before) p x
  pub news_are : (a b : ℕ) → HoldsFact g known a b ↔ (HoldsFact g before a b ⊎ HoldsFact g news a b)

-- each vertex of a function has exactly the formal-outs to which chains of inner edges lead from it
pub record AreExits (g : Graph) (K : FactSet) (p : FunctionPart) (x : ExitRows) : Type 0 where
  pub part : IsPart g p
  pub room : HasRoom p x
  pub exact : (v k : ℕ) → IsInRange p.range v → Holds x.rows (v - p.range.first) k ↔ ((k < p.last_row - p.first_row) × IsInnerChain g K part.whole.function v (exit_at g p k))
