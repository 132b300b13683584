-- The functions that a round takes: those that call one whose facts grew.
use Rattle.std.specs.Prelude.{◌≡◌, ◌≢◌, ◌↔◌, ℕ, ◌+◌, ◌<◌, ◌≤◌, true, List, length, get_or, Some, Contains, slice_get}
use Rattle.std.specs.Option.{option_map_or}
use Rattle.bit_rows.specs.Sets.{has}
use Rattle.crew.specs.SharedWords.{Holds}
use Rattle.dep_model.specs.declared.graph.Graph.{Graph}
use Rattle.dep_model.specs.declared.graph.OutRow.{OutRow}
use Rattle.dep_model.specs.declared.vertex.Vertex.{Vertex}
use Rattle.dep_model.specs.Facts.{IsIn}
use Rattle.dep_model.specs.Graphs.{row_width}
use Rattle.dep_model.specs.Shapes.{IsCallOf}
use Rattle.summary_edges.specs.declared.agenda.Agenda.{Agenda}
use Rattle.summary_edges.specs.declared.function_parts.FunctionPart.{FunctionPart}
use Rattle.summary_edges.specs.declared.function_parts.FunctionParts.{FunctionParts}
use Rattle.summary_edges.specs.FunctionParts.{IsPart}

-- function f holds a call of function h
pub record HoldsCall (g : Graph) (f h : ℕ) : Type 0 where
  pub statement : ℕ
  pub call : ℕ
  pub calls : IsCallOf g f statement h call

-- one of the rows of function h differs: a word of it
pub record HasRowChanged (g : Graph) (before after : List ℕ) (h : ℕ) : Type 0 where
  pub row : OutRow
  pub is_row : Contains g.outs row
  pub own : IsIn g.vertices h row.vertex
  pub word : ℕ
  pub from : row.word ≤ word
  pub to : word < row.word + row_width g.vertices h
  pub differs : get_or before word 0 ≢ get_or after word 0

-- function f is due where facts grew: it holds a call of a function one of whose rows differs
pub record IsDue (g : Graph) (before after : List ℕ) (f : ℕ) : Type 0 where
  pub callee : ℕ
  pub calls : HoldsCall g f callee
  pub changed : HasRowChanged g before after callee

-- the second words hold a bit that the first lack
pub record HasGainedBit (before after : List ℕ) : Type 0 where
  pub bit : ℕ
  pub now : Holds after bit
  pub not_before : Holds before bit → ⊥

-- ---- as they are found

-- an agenda over so many functions has the places that are marked
pub record IsAgenda (functions : ℕ) (a : Agenda) : Type 0 where
  pub long : length a.marks.items ≡ functions
  pub listed : (p : ℕ) → Contains a.places.items p ↔ (has a.marks.items p ≡ true)

-- the function at a place holds a call of that of a part
pub record IsCaller (g : Graph) (parts : FunctionParts) (called : FunctionPart) (p : ℕ) : Type 0 where
  pub part : FunctionPart
  pub at : slice_get parts.list.items p ≡ Some part
  pub is_part : IsPart g part
  pub is_called : IsPart g called
  pub calls : HoldsCall g is_part.whole.function is_called.whole.function

-- a word of a part's rows differs
pub record HaveWordsChanged (p : FunctionPart) (before after : List ℕ) : Type 0 where
  pub word : ℕ
  pub from : p.first_word ≤ word
  pub to : word < p.last_word
  pub differs : get_or before word 0 ≢ get_or after word 0

-- the function at a place holds a call of one whose words differ
pub record IsCallerOfChanged (g : Graph) (parts : FunctionParts) (before after : List ℕ) (p : ℕ) : Type 0 where
  pub place : ℕ
  pub called : FunctionPart
  pub at : slice_get parts.list.items place ≡ Some called
  pub changed : HaveWordsChanged called before after
  pub caller : IsCaller g parts called p

-- the number of the function at a place
abbrev pub number_at : Graph → FunctionParts → ℕ → ℕ
number_at g parts p = option_map_or (λ (q : FunctionPart). option_map_or (λ (x : Vertex). x.function) (slice_get g.vertices q.range.first) 0) (slice_get parts.list.items p) 0
