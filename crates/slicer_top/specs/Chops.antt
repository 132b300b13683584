-- Forward slices and chops of lines, in the dependence graph of a program, and their lines.
use Rattle.std.specs.Prelude.{◌≡◌, ◌↔◌, ℕ, List, Bool, length, IsTrue}
use Rattle.bit_rows.specs.Sets.{has}
use Rattle.c_tree.specs.declared.program.Program.{Program}
use Rattle.c_language.specs.Words.{Bytes}
use Rattle.dep_model.specs.declared.graph.Graph.{Graph}
use Rattle.dep_model.specs.Graphs.{IsGraphOf}
use Rattle.dep_model.specs.LocationLists.{location_list}
use Rattle.forward_chop.specs.Chops.{IsForward, IsInChop}
use Rattle.graph_text.specs.Lines.{members_words}
use Rattle.slice_engine.specs.Engine.{AreVerticesIn}

-- in a graph, a set is exactly the forward slice of the vertices of the statements on a line
pub record IsForwardIn (p : Program) (g : Graph) (line : ℕ) (set : List Bool) : Type 0 where
  pub size : length set ≡ length g.vertices
  pub from : List ℕ
  pub from_are : AreVerticesIn p g line from
  pub exact : (v : ℕ) → IsTrue (has set v) ↔ IsForward g.edges from v

-- it is exactly the chop of those of two lines
pub record IsChopIn (p : Program) (g : Graph) (first second : ℕ) (set : List Bool) : Type 0 where
  pub size : length set ≡ length g.vertices
  pub from : List ℕ
  pub from_are : AreVerticesIn p g first from
  pub to : List ℕ
  pub to_are : AreVerticesIn p g second to
  pub exact : (v : ℕ) → IsTrue (has set v) ↔ IsInChop g.edges from to v

-- what is written are the lines of the vertices of a set of a program's dependence graph, each once, ascending
pub record IsSetText (p : Program) (IsSet : Graph → List Bool → Type 0) (written : Bytes) : Type 0 where
  pub graph : Graph
  pub is_graph : IsGraphOf p graph
  pub set : List Bool
  pub is_set : IsSet graph set
  pub is : written ≡ members_words p (location_list p) graph set

-- of the forward slice of a line
abbrev pub IsForwardText : Program → ℕ → Bytes → Type 0
IsForwardText p line = IsSetText p (λ g set. IsForwardIn p g line set)

-- of the chop of two lines
abbrev pub IsChopText : Program → ℕ → ℕ → Bytes → Type 0
IsChopText p first second = IsSetText p (λ g set. IsChopIn p g first second set)
