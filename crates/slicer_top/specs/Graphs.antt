-- The dependence graph of a program as text, and the lines of what reaches the statements on a line.
use Rattle.std.specs.Prelude.{◌≡◌, ℕ, List, Bool}
use Rattle.c_tree.specs.declared.program.Program.{Program}
use Rattle.c_language.specs.Words.{Bytes}
use Rattle.dep_model.specs.declared.graph.Graph.{Graph}
use Rattle.dep_model.specs.Graphs.{IsGraphOf}
use Rattle.dep_model.specs.LocationLists.{location_list}
use Rattle.graph_text.specs.Lines.{graph_words, members_words}
use Rattle.slice_engine.specs.Engine.{AreMembers}

-- what is written is the system dependence graph of the program: a line for each vertex, and then a line for each edge
pub record IsGraphText (p : Program) (written : Bytes) : Type 0 where
  pub graph : Graph
  pub is_graph : IsGraphOf p graph
  pub is : written ≡ graph_words p (location_list p) graph

-- it is the lines of exactly the vertices of that graph that reach the statements on a line by matched words
pub record IsMembersText (p : Program) (line : ℕ) (written : Bytes) : Type 0 where
  pub graph : Graph
  pub is_graph : IsGraphOf p graph
  pub reached : List Bool
  pub are_members : AreMembers p line reached
  pub is : written ≡ members_words p (location_list p) graph reached
