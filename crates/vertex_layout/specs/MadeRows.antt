-- Rows for the vertices of a program, and how they are made, vertex by vertex.
use Rattle.std.specs.Prelude.{◌≡◌, ℕ, ◌<◌, ◌≤◌, List, length, false, Some, slice_get}
use Rattle.bit_rows.specs.Sets.{has}
use Rattle.bit_rows.specs.Tables.{Table, the_set, IsSized}
use Rattle.c_tree.specs.declared.program.Program.{Program}
use Rattle.dep_model.specs.declared.vertex.Vertex.{Vertex}
use Rattle.dep_model.specs.Denoted.{Places, TargetsOf}
use Rattle.dep_model.specs.Locations.{TypedLocation, locations}
use Rattle.dep_model.specs.VertexOrder.{vertex_effects}
use Rattle.effect_rows.specs.Gains.{with_places}
use Rattle.vertex_layout.specs.declared.rows.VertexRows.{VertexRows}

-- three rows of a program's locations for each of so many vertices
pub record HasVertexRows (p : Program) (count : ℕ) (r : VertexRows) : Type 0 where
  pub defined_sized : IsSized count (length (locations p)) r.defined
  pub used_sized : IsSized count (length (locations p)) r.used
  pub killed_sized : IsSized count (length (locations p)) r.killed

-- the rows at one number have gained what a vertex may define, may use and kills
pub record HasGained (p : Program) (points : TargetsOf) (x : Vertex) (row : ℕ) (old new : VertexRows) : Type 0 where
  pub defined_gained : new.defined ≡ with_places p row ((vertex_effects p points).defines x) old.defined
  pub used_gained : new.used ≡ with_places p row ((vertex_effects p points).uses x) old.used
  pub killed_gained : new.killed ≡ with_places p row ((vertex_effects p points).kills x) old.killed

-- the rows of the first n vertices have their locations, and the others are empty
pub record AreMade (p : Program) (vs : List Vertex) (places : Vertex → Places) (n : ℕ) (t : Table) : Type 0 where
  pub sized : IsSized (length vs) (length (locations p)) t
  pub exact : (v k : ℕ) (x : Vertex) (o : TypedLocation) → v < n → slice_get vs v ≡ Some x → slice_get (locations p) k ≡ Some o → has (the_set t v) k ≡ places x o.location
  pub empty : (v k : ℕ) → n ≤ v → v < length vs → has (the_set t v) k ≡ false

pub record AreVertexRows (p : Program) (points : TargetsOf) (vs : List Vertex) (n : ℕ) (r : VertexRows) : Type 0 where
  pub defined_made : AreMade p vs (vertex_effects p points).defines n r.defined
  pub used_made : AreMade p vs (vertex_effects p points).uses n r.used
  pub killed_made : AreMade p vs (vertex_effects p points).kills n r.killed
