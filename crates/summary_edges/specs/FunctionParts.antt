-- The functions of a graph: the vertices of each, and the rows of its facts.
use Rattle.std.specs.Prelude.{◌≡◌, ◌↔◌, ℕ, ◌<◌, ◌≤◌, length, get_or, Some, None, slice_get}
use Rattle.std.specs.Option.{option_map_or}
use Rattle.dep_model.specs.declared.graph.Graph.{Graph}
use Rattle.dep_model.specs.declared.graph.OutRow.{OutRow}
use Rattle.dep_model.specs.Facts.{IsIn}
use Rattle.matched_paths.specs.VertexRanges.{IsWholeFunction}
use Rattle.summary_edges.specs.declared.function_parts.FunctionPart.{FunctionPart}
use Rattle.summary_edges.specs.declared.function_parts.FunctionParts.{FunctionParts}

-- the first word of row k, or how many words there are where there is no such row
abbrev pub row_start : Graph → ℕ → ℕ
row_start g k = option_map_or (λ (r : OutRow). r.word) (slice_get g.outs k) g.fact_words

-- a part is one function of the graph: all its vertices, the rows of these, and their words
pub record IsPart (g : Graph) (p : FunctionPart) : Type 0 where
  pub whole : IsWholeFunction g.vertices p.range
  pub order : p.range.first < p.range.last
  pub inside : p.range.last ≤ length g.vertices
  pub rows_first : p.first_row ≤ length g.outs
  pub rows_inside : p.last_row ≤ length g.outs
  pub rows_from : (k : ℕ) (r : OutRow) → slice_get g.outs k ≡ Some r → (k < p.first_row) ↔ (r.vertex < p.range.first)
  pub rows_to : (k : ℕ) (r : OutRow) → slice_get g.outs k ≡ Some r → (k < p.last_row) ↔ (r.vertex < p.range.last)
  pub words_from : p.first_word ≡ row_start g p.first_row
  pub words_to : p.last_word ≡ row_start g p.last_row

-- the part in the list that has a vertex
pub record IsFound (parts : FunctionParts) (v : ℕ) : Type 0 where
  pub part : FunctionPart
  pub at : slice_get parts.list.items (get_or parts.of_vertex.items v 0) ≡ Some part
  pub from : part.range.first ≤ v
  pub to : v < part.range.last

-- function f stands at a place of the list
pub record HasNumber (g : Graph) (parts : FunctionParts) (f k : ℕ) : Type 0 where
  pub part : FunctionPart
  pub at : slice_get parts.list.items k ≡ Some part
  pub first : IsIn g.vertices f part.range.first

-- the parts are the functions of the vertices before the place, each once
pub record AreFirstParts (g : Graph) (parts : FunctionParts) (n : ℕ) : Type 0 where
  pub long : length parts.of_vertex.items ≡ n
  pub few : length parts.list.items ≤ n
  pub each : (k : ℕ) (p : FunctionPart) → slice_get parts.list.items k ≡ Some p → IsPart g p
  pub own : (k : ℕ) (p : FunctionPart) → slice_get parts.list.items k ≡ Some p → (p.range.first < n) × (get_or parts.of_vertex.items p.range.first 0 ≡ k)
  pub found : (v : ℕ) → v < n → IsFound parts v
  pub numbered : (f k : ℕ) → (get_or parts.of_number.items f None ≡ Some k) ↔ HasNumber g parts f k

-- the parts are all functions of the graph, each once
abbrev pub AreParts : Graph → FunctionParts → Type 0
AreParts g parts = AreFirstParts g parts (length g.vertices)
