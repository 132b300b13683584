-- What the steps of a graph's functions look up.
use Rattle.std.specs.Prelude.{◌≡◌, ℕ, flat_map}
use Rattle.dep_model.specs.declared.graph.Graph.{Graph}
use Rattle.dep_model.specs.Shapes.{IsShaped}
use Rattle.matched_paths.specs.EdgeGroups.{group_at, ending, entering, calling}
use Rattle.matched_paths.specs.Places.{ArePlaces}
use Rattle.summary_edges.specs.declared.fact_index.FactIndex.{FactIndex}
use Rattle.summary_edges.specs.FunctionParts.{AreParts}

-- the index is that of a shaped graph
pub record IsIndex (g : Graph) (x : FactIndex) : Type 0 where
  pub shaped : IsShaped g
  pub places : ArePlaces g x.places
  pub parts : AreParts g x.parts
  pub ends : (v : ℕ) → group_at x.ends v ≡ flat_map (ending v) g.edges
  pub entries : (c : ℕ) → group_at x.entries c ≡ flat_map (entering c) g.edges
  pub calls : (h : ℕ) → group_at x.calls h ≡ flat_map (calling g.vertices h) g.edges
