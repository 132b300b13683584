-- What an engine holds, and what it finds at a line.
use Rattle.std.specs.Prelude.{◌≡◌, ◌↔◌, ℕ, ◌≤◌, ◌<◌, List, Bool, true, false, length, slice_index_or, AllPairs, Contains, IsTrue}
use Rattle.bit_rows.specs.Sets.{has}
use Rattle.c_tree.specs.declared.program.Program.{Program}
use Rattle.c_tree.specs.Numbered.{Starts, program_starts}
use Rattle.c_language.specs.Programs.{IsWellFormed}
use Rattle.dep_model.specs.declared.edge.Edge.{Edge}
use Rattle.dep_model.specs.declared.facts.Facts.{Facts}
use Rattle.dep_model.specs.declared.graph.Graph.{Graph}
use Rattle.dep_model.specs.declared.location.Location.{Location}
use Rattle.dep_model.specs.ClosedSets.{IsMainEntry}
use Rattle.dep_model.specs.Completion.{IsCompletion}
use Rattle.dep_model.specs.Criteria.{criterion_of}
use Rattle.dep_model.specs.Facts.{AreTrueFacts}
use Rattle.dep_model.specs.Graphs.{IsGraphOf}
use Rattle.dep_model.specs.LocationLists.{location_list}
use Rattle.dep_model.specs.NamedParameters.{NamesParameter}
use Rattle.dep_model.specs.Shapes.{IsShaped}
use Rattle.dep_model.specs.SystemGraph.{Analysis, IsAnalysis, AreSystemEdges}
use Rattle.kept_numbers.specs.Ranks.{rank}
use Rattle.slice_engine.specs.Slice.{starts_on, criterion, keeps, sliced, IsReached, IsKeptSet}

-- a program's locations and its graph are within the limits
pub record IsWithinLimits (p : Program) (g : Graph) : Type 0 where
  pub few_locations : length (location_list p) ≤ 4096
  pub few_vertices : length g.vertices ≤ 65536
  pub few_words : g.fact_words ≤ 262144

-- a well-formed program with its graph, the true facts of this, and its statements' starts
pub record IsPrepared (p : Program) (g : Graph) (facts : Facts) (starts : Starts) : Type 0 where
  pub well_formed : IsWellFormed p
  pub is_graph : IsGraphOf p g
  pub within : IsWithinLimits p g
  pub shaped : IsShaped g
  pub facts_are : AreTrueFacts g facts.words
  pub starts_are : starts ≡ program_starts p

-- what an engine holds: all that is prepared of its program, and the program's locations
pub record IsReady (p : Program) (list : List Location) (g : Graph) (facts : Facts) (starts : Starts) : Type 0 where
  pub prepared : IsPrepared p g facts starts
  pub locations_are : list ≡ location_list p

-- the facts are the true ones of each graph of the program
abbrev pub AreFactsOf : Program → Facts → Type 0
AreFactsOf p facts = (g : Graph) → IsGraphOf p g → AreTrueFacts g facts.words

-- ---- what is found at a line

-- the numbers of exactly the vertices of the statements that start on a line, in a graph, ascending
pub record AreVerticesIn (p : Program) (g : Graph) (line : ℕ) (numbers : List ℕ) : Type 0 where
  pub members : (v : ℕ) → IsTrue (has (criterion_of (starts_on p line) g.vertices) v) ↔ Contains numbers v
  pub ascending : AllPairs (λ u v. u < v) numbers

-- in each graph of the program
abbrev pub AreVerticesOf : Program → ℕ → List ℕ → Type 0
AreVerticesOf p line numbers = (g : Graph) → IsGraphOf p g → AreVerticesIn p g line numbers

-- a set has a place for each vertex of the program's graph
abbrev pub HasPlaces : Program → List Bool → Type 0
HasPlaces p s = (g : Graph) → IsGraphOf p g → length s ≡ length g.vertices

-- a set is exactly what reaches the criterion of a line, in the system graph of the program
pub record AreMembers (p : Program) (line : ℕ) (reached : List Bool) : Type 0 where
  pub analysis : Analysis
  pub is_analysis : IsAnalysis p analysis
  pub edges : List Edge
  pub are_edges : AreSystemEdges p analysis edges
  pub is_reached : IsReached edges (criterion p analysis line) reached

-- the same, by the vertices and edges of a graph
abbrev pub AreMembersIn : Program → Graph → ℕ → List Bool → Type 0
AreMembersIn p g line = IsReached g.edges (criterion_of (starts_on p line) g.vertices)

-- a set is the completion of another one, in the graph of a program
abbrev pub Completes : Program → Graph → List Bool → List Bool → Type 0
Completes p g reached kept = (main : ℕ) → IsMainEntry p g.vertices main → IsCompletion g.edges (NamesParameter p g.vertices) main reached kept

-- it is the completion of what reaches the criterion of a line
pub record KeepsFrom (p : Program) (g : Graph) (line : ℕ) (kept : List Bool) : Type 0 where
  pub reached : List Bool
  pub are_members : AreMembersIn p g line reached
  pub completes : Completes p g reached kept

-- a set is exactly what the slice at a line keeps, in the system graph of the program
pub record IsKept (p : Program) (line : ℕ) (kept : List Bool) : Type 0 where
  pub analysis : Analysis
  pub is_kept : IsKeptSet p analysis line kept

-- a program is that of the slice at a line, and these of its statements are the criterion's
pub record IsSlicedAt (p : Program) (line : ℕ) (q : Program) (in_criterion : List Bool) : Type 0 where
  pub analysis : Analysis
  pub kept : List Bool
  pub is_kept : IsKeptSet p analysis line kept
  pub program_is : q ≡ sliced p analysis kept
  pub in_criterion_long : length in_criterion ≡ q.statements
  -- each kept statement stands at its rank
  pub in_criterion_are : (i : ℕ) → i < p.statements → keeps p analysis kept i ≡ true → slice_index_or in_criterion (rank (keeps p analysis kept) i) false ≡ starts_on p line i
  pub in_criterion_only : (r : ℕ) → slice_index_or in_criterion r false ≡ true → (i : ℕ) × (i < p.statements) × (keeps p analysis kept i ≡ true) × (rank (keeps p analysis kept) i ≡ r)
