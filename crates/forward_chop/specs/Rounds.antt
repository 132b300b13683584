-- What rounds over contexts come to: a context is a way into a function, with the results that are asked for with it.
use Rattle.std.specs.Prelude.{◌≡◌, ◌↔◌, ℕ, ◌-◌, ◌<◌, ◌≤◌, ◌⊎◌, Bool, true, false, List, length, flat_map, IsTrue, Some, slice_get}
use Rattle.bit_rows.specs.Sets.{has, count_of}
use Rattle.dep_model.specs.declared.edge.Edge.{Edge}
use Rattle.dep_model.specs.declared.graph.Graph.{Graph}
use Rattle.dep_model.specs.Facts.{IsMatchedPath}
use Rattle.dep_model.specs.Shapes.{IsShaped}
use Rattle.matched_paths.specs.EdgeGroups.{group_at, leaving, starting}
use Rattle.matched_paths.specs.StepRules.{IsBack}
use Rattle.matched_paths.specs.declared.vertex_range.VertexRange.{VertexRange}
use Rattle.matched_paths.specs.VertexRanges.{IsInRange, IsWholeFunction}
use Rattle.forward_chop.specs.declared.field.Field.{Field}
use Rattle.forward_chop.specs.declared.wanted.Wanted.{Wanted}
use Rattle.forward_chop.specs.Contexts.{IsCall, IsInside}
use Rattle.forward_chop.specs.Fields.{IsFitted}
use Rattle.forward_chop.specs.Pairs.{IsLaid, asks, covers}

-- a function of a graph, with the rules that go along the matched paths in it, forward and backward
pub record IsPart (g : Graph) (f : Field) : Type 0 where
  pub fitted : IsFitted f
  pub whole : IsWholeFunction g.vertices f.range
  pub inside : f.range.last ≤ length g.vertices
  pub ahead_is : (u v : ℕ) → IsInRange f.range u → IsInRange f.range v → IsBack f.ahead.rules (u - f.range.first) (v - f.range.first) ↔ IsMatchedPath g.edges u v
  pub behind_is : (u v : ℕ) → IsInRange f.range u → IsInRange f.range v → IsBack f.behind.rules (u - f.range.first) (v - f.range.first) ↔ IsMatchedPath g.edges v u

-- the edges of a shaped graph by the function from which they lead, and by the call that they leave
pub record IsIndex (g : Graph) (starts exits : List (List Edge)) : Type 0 where
  pub shaped : IsShaped g
  pub starts_are : (f : ℕ) → group_at starts f ≡ flat_map (starting g.vertices f) g.edges
  pub exits_are : (c : ℕ) → group_at exits c ≡ flat_map (leaving c) g.edges

-- there is a bit for each pair of a way in and a result of one call
abbrev pub CoversCalls : List Edge → Wanted → Type 0
CoversCalls edges w = (a x o b : ℕ) → IsCall edges a x o b → IsTrue (covers w x o)

-- a pair that is asked for, or stands inside of one
pub data IsFromPairs (edges : List Edge) (w : Wanted) : ℕ → ℕ → Type 0 where
  given : {x o : ℕ} → IsTrue (asks w x o) → IsFromPairs edges w x o
  inside : {x o y p : ℕ} → IsFromPairs edges w x o → IsInside edges x o y p → IsFromPairs edges w y p

-- v stands between such a pair
pub record IsMiddle (edges : List Edge) (w : Wanted) (v : ℕ) : Type 0 where
  pub way_in : ℕ
  pub out : ℕ
  pub pair : IsFromPairs edges w way_in out
  pub goes_in : IsMatchedPath edges way_in v
  pub comes_out : IsMatchedPath edges v out

-- what stands inside of a context's pairs is asked for, and what stands between them is in the set
pub record IsDone (edges : List Edge) (w : Wanted) (s : List Bool) (x : ℕ) : Type 0 where
  pub pairs : (o y p : ℕ) → IsTrue (asks w x o) → IsInside edges x o y p → IsTrue (asks w y p)
  pub middle : (o v : ℕ) → IsTrue (asks w x o) → IsMatchedPath edges x v → IsMatchedPath edges v o → IsTrue (has s v)

-- each context is that isn't due
abbrev pub AreDone : List Edge → Wanted → List Bool → Type 0
AreDone edges w s = (x : ℕ) → has w.due.items x ≡ false → IsDone edges w s x

-- some contexts were taken: from w0 and s0 to w and s
pub record HasGone (edges : List Edge) (w0 : Wanted) (s0 : List Bool) (w : Wanted) (s : List Bool) (grows : Bool) : Type 0 where
  pub laid : IsLaid w
  pub long : length w.pairs ≡ length w0.pairs
  pub outs_same : w.outs.items ≡ w0.outs.items
  pub size : length s ≡ length s0
  pub pairs_kept : (x o : ℕ) → IsTrue (asks w0 x o) → IsTrue (asks w x o)
  pub pairs_true : (x o : ℕ) → IsTrue (asks w x o) → IsFromPairs edges w0 x o
  pub into_kept : (v : ℕ) → IsTrue (has s0 v) → IsTrue (has s v)
  pub into_true : (v : ℕ) → IsTrue (has s v) → IsTrue (has s0 v) ⊎ IsMiddle edges w0 v
  pub done : AreDone edges w s
  pub none : grows ≡ false → (w.pairs ≡ w0.pairs) × ((x : ℕ) → IsTrue (has w.due.items x) → IsTrue (has w0.due.items x))
  pub more : grows ≡ true → count_of w0.pairs < count_of w.pairs

-- what is wanted of a graph so far: there is a bit for each pair of a call, and each context that isn't due is done
pub record IsOpen (g : Graph) (w : Wanted) (s : List Bool) : Type 0 where
  pub laid : IsLaid w
  pub all : length w.outs.items ≡ length g.vertices
  pub covered : CoversCalls g.edges w
  pub done : AreDone g.edges w s
  pub size : length s ≡ length g.vertices

-- no way in of the range is due
abbrev pub NoneDue : VertexRange → Wanted → Type 0
NoneDue r w = (x : ℕ) → IsInRange r x → has w.due.items x ≡ false

-- the functions of a graph, with all of its vertices
pub record AreParts (g : Graph) (parts : List Field) : Type 0 where
  pub each : (k : ℕ) (p : Field) → slice_get parts k ≡ Some p → IsPart g p
  pub all : (x : ℕ) → x < length g.vertices → (k : ℕ) × ((p : Field) × (slice_get parts k ≡ Some p) × IsInRange p.range x)
