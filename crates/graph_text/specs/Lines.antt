-- The printed form of a dependence graph: a line for each vertex by its number, then a line for each edge.
use Rattle.std.specs.Prelude.{ℕ, suc, Bool, true, false, List, [], ◌∷◌, ◌++◌, Option, Some, None, codes, slice_get}
use Rattle.std.specs.Fmt.{decimal}
use Rattle.std.specs.Option.{option_map_or}
use Rattle.c_tree.specs.declared.program.Program.{Program}
use Rattle.c_language.specs.Words.{Bytes, name_of_function}
use Rattle.dep_model.specs.declared.edge.Edge.{Edge}
use Rattle.dep_model.specs.declared.edge.Label.{Label}
use Rattle.dep_model.specs.declared.edge.Label.TheVariants as label
use Rattle.dep_model.specs.declared.graph.Graph.{Graph}
use Rattle.dep_model.specs.declared.location.Location.{Location}
use Rattle.dep_model.specs.declared.vertex.Slot.{Slot}
use Rattle.dep_model.specs.declared.vertex.Slot.TheVariants as slot
use Rattle.dep_model.specs.declared.vertex.Vertex.{Vertex}
use Rattle.dep_model.specs.declared.vertex.VertexKind.{VertexKind}
use Rattle.dep_model.specs.declared.vertex.VertexKind.TheVariants as kind
use Rattle.graph_text.specs.declared.rows.Row.{Row}
use Rattle.graph_text.specs.Rows.{rows, line_at, called_at}
use Rattle.graph_text.specs.Places.{location_words}

-- ---- vertices

-- what a formal or an actual carries; arguments are counted from 1
abbrev pub slot_words : Program → List Row → List Location → Slot → Bytes
slot_words p rows ls (slot.Argument k) = codes "#" ++ decimal (suc k)
slot_words p rows ls slot.Result = codes "result"
slot_words p rows ls (slot.At l) = option_map_or (location_words p rows) (slice_get ls l) []

abbrev pub called_words : Program → Option ℕ → Bytes
called_words p None = []
called_words p (Some f) = name_of_function p f

abbrev pub kind_words : Program → List Row → List Location → VertexKind → Bytes
kind_words p rows ls kind.Entry = codes " entry"
kind_words p rows ls (kind.FormalIn s) = codes " formal-in " ++ slot_words p rows ls s
kind_words p rows ls (kind.FormalOut s) = codes " formal-out " ++ slot_words p rows ls s
kind_words p rows ls (kind.Statement i) = codes " statement " ++ decimal (line_at rows i)
kind_words p rows ls (kind.Call i) = codes " call " ++ (decimal (line_at rows i) ++ (codes " " ++ called_words p (called_at rows i)))
kind_words p rows ls (kind.ActualIn i s) = codes " actual-in " ++ (decimal (line_at rows i) ++ (codes " " ++ slot_words p rows ls s))
kind_words p rows ls (kind.ActualOut i s) = codes " actual-out " ++ (decimal (line_at rows i) ++ (codes " " ++ slot_words p rows ls s))

-- the line of vertex number n
abbrev pub vertex_line : Program → List Row → List Location → ℕ → Vertex → Bytes
vertex_line p rows ls n v =
    decimal n ++ (codes " " ++ (name_of_function p v.function ++ (kind_words p rows ls v.kind ++ codes "\n")))

-- the lines of vertices, of which the first has the number n
abbrev pub vertex_lines : Program → List Row → List Location → ℕ → List Vertex → Bytes
vertex_lines p rows ls n [] = []
vertex_lines p rows ls n (v ∷ vs) = vertex_line p rows ls n v ++ vertex_lines p rows ls (suc n) vs

-- ---- edges

abbrev pub label_words : Label → Bytes
label_words label.Control = codes " control"
label_words label.Flow = codes " flow"
label_words (label.Call c) = codes " call " ++ decimal c
label_words (label.In c) = codes " in " ++ decimal c
label_words (label.Out c) = codes " out " ++ decimal c

abbrev pub edge_line : Edge → Bytes
edge_line e = decimal e.from ++ (codes " -> " ++ (decimal e.to ++ (label_words e.label ++ codes "\n")))

abbrev pub edge_lines : List Edge → Bytes
edge_lines [] = []
edge_lines (e ∷ es) = edge_line e ++ edge_lines es

-- ---- what is printed

-- a graph of a program: all its vertices, and then all its edges
abbrev pub graph_words : Program → List Location → Graph → Bytes
graph_words p ls g = vertex_lines p (rows p) ls 0 g.vertices ++ edge_lines g.edges

abbrev pub member_line : Program → List Row → List Location → Bool → ℕ → Vertex → Bytes
member_line p rows ls true n v = vertex_line p rows ls n v
member_line p rows ls false n v = []

-- the lines of those vertices that a set has, a test for each of them, of which the first has the number n
abbrev pub member_lines : Program → List Row → List Location → ℕ → List Bool → List Vertex → Bytes
member_lines p rows ls n [] vs = []
member_lines p rows ls n (b ∷ bs) [] = []
member_lines p rows ls n (b ∷ bs) (v ∷ vs) = member_line p rows ls b n v ++ member_lines p rows ls (suc n) bs vs

-- the vertices of a graph that a set has
abbrev pub members_words : Program → List Location → Graph → List Bool → Bytes
members_words p ls g set = member_lines p (rows p) ls 0 set g.vertices
