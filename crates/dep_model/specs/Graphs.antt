-- The system graph of a program as plain data: its vertices, its edges, and the rows for its facts.
use Rattle.std.specs.Prelude.{◌≡◌, ◌↔◌, ℕ, suc, ◌+◌, ◌/◌, List, [], ◌∷◌, length, if◌then◌else◌, Contains}
use Rattle.c_tree.specs.declared.program.Program.{Program}
use Rattle.dep_model.specs.declared.edge.Edge.{Edge}
use Rattle.dep_model.specs.declared.edge.Label.{Label}
use Rattle.dep_model.specs.declared.graph.FunctionGraph.{FunctionGraph}
use Rattle.dep_model.specs.declared.graph.Graph.{Graph}
use Rattle.dep_model.specs.declared.graph.OutRow.{OutRow}
use Rattle.dep_model.specs.declared.vertex.Vertex.{Vertex}
use Rattle.dep_model.specs.EdgeOrder.{AreAscendingEdges}
use Rattle.dep_model.specs.FunctionVertices.{is_formal_in, is_formal_out, numbers}
use Rattle.dep_model.specs.SystemGraph.{Analysis, IsAnalysis, vertices_of, IsFunctionEdge, AreSystemEdges}

abbrev pub edge : ℕ → ℕ → Label → Edge
edge from to label = record { from = from; to = to; label = label }

-- ---- the rows of facts

-- a row has a bit for each formal-in of a function, in words of 64 bits
abbrev pub row_width : List Vertex → ℕ → ℕ
row_width vs f = (length (numbers is_formal_in f vs) + 63) / 64

-- the rows of the formal-outs in a part of the vertices vs: the part begins at vertex v, and its first row at word w
abbrev pub out_rows_from : List Vertex → ℕ → ℕ → List Vertex → List OutRow
out_rows_from vs v w [] = []
out_rows_from vs v w (x ∷ xs) =
    if is_formal_out x.kind then record { vertex = v; word = w } ∷ out_rows_from vs (suc v) (w + row_width vs x.function) xs
    else out_rows_from vs (suc v) w xs

-- a row for each formal-out in the order of the vertices, one behind the other
abbrev pub out_rows : List Vertex → List OutRow
out_rows vs = out_rows_from vs 0 0 vs

-- how many words the rows of a part of the vertices vs take
abbrev pub words_in : List Vertex → List Vertex → ℕ
words_in vs [] = 0
words_in vs (x ∷ xs) = if is_formal_out x.kind then row_width vs x.function + words_in vs xs else words_in vs xs

abbrev pub fact_words : List Vertex → ℕ
fact_words vs = words_in vs vs

-- ---- graphs

-- a graph's rows are those of its vertices
pub record HasRows (g : Graph) : Type 0 where
  pub outs_are : g.outs ≡ out_rows g.vertices
  pub words_are : g.fact_words ≡ fact_words g.vertices

-- the graph of one function, by an analysis: its control and flow edges
pub record IsFunctionGraph (p : Program) (a : Analysis) (f : ℕ) (g : FunctionGraph) : Type 0 where
  pub ascending : AreAscendingEdges g.edges
  pub edges_are : (e : Edge) → Contains g.edges e ↔ IsFunctionEdge p a f e

-- the graph of a program, by an analysis
pub record IsGraph (p : Program) (a : Analysis) (g : Graph) : Type 0 where
  pub vertices_are : g.vertices ≡ vertices_of p a
  pub ascending : AreAscendingEdges g.edges
  pub edges_are : AreSystemEdges p a g.edges
  pub rows_are : HasRows g

-- the graph of a program, by its analysis
pub record IsGraphOf (p : Program) (g : Graph) : Type 0 where
  pub analysis : Analysis
  pub is_analysis : IsAnalysis p analysis
  pub is_graph : IsGraph p analysis g
