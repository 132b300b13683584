-- Flow by rows of locations and pairs of vertices, all by their numbers.
use Rattle.std.specs.Prelude.{◌≡◌, ℕ, ◌<◌, Bool, List, length, Contains}
use Rattle.bit_rows.specs.Sets.{has}
use Rattle.bit_rows.specs.Tables.{Table, the_set}
use Rattle.dep_model.specs.declared.edge.Edge.{Edge}
use Rattle.dep_model.specs.declared.edge.Label.TheVariants.{Flow}
use Rattle.dep_model.specs.declared.skeleton.FlowGraph.{FlowGraph}
use Rattle.dep_model.specs.declared.skeleton.Pair.{Pair}
use Rattle.dep_model.specs.declared.skeleton.Skeleton.{Skeleton}
use Rattle.dep_model.specs.Follows.{EffectsOf, Flows}

-- the table has location number k in the row of vertex number v
abbrev pub row_has : Table → ℕ → ℕ → Bool
row_has t v k = has (the_set t v) k

-- what the rows say that the vertices may define, may use and kill
abbrev pub row_effects : Skeleton → EffectsOf ℕ ℕ
row_effects s = record { defines = row_has s.defined; uses = row_has s.used; kills = row_has s.killed }

-- one of the pairs leads from v to w
abbrev pub Leads : List Pair → ℕ → ℕ → Type 0
Leads pairs v w = Contains pairs (record { from = v; to = w })

-- a flow edge: a location that the rows have a number for may be defined at its start and used at its end, and a chain of
-- the pairs leads from there to here without a kill
pub record IsRowFlow (s : Skeleton) (g : FlowGraph) (e : Edge) : Type 0 where
  pub labelled : e.label ≡ Flow
  pub flows : Flows (Leads g.pairs) (row_effects s) e.from e.to
  pub numbered : flows.location < s.defined.bits

-- each table has a row for each vertex, and all are equally wide
pub record AreEvenRows (s : Skeleton) : Type 0 where
  pub defined_long : length s.defined.sets ≡ length s.vertices
  pub used_long : length s.used.sets ≡ length s.vertices
  pub killed_long : length s.killed.sets ≡ length s.vertices
  pub used_wide : s.used.bits ≡ s.defined.bits
  pub killed_wide : s.killed.bits ≡ s.defined.bits
