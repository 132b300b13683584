-- What holds in one graph of a program holds in each: all have the same vertices, rows and edges.
use Rattle.std.proofs.Common.{◌≡◌, ℕ, ◌<◌, List, length, sym, ap, ◌∙◌, subst}
use Rattle.std.specs.Prelude.{All, Contains, IsTrue}
use Rattle.std.proofs.lemmas.List.Elements.{Contains-get_or}
use Rattle.bit_rows.specs.Sets.{has}
use Rattle.c_tree.specs.declared.program.Program.{Program}
use Rattle.dep_model.specs.declared.edge.Edge.{Edge}
use Rattle.dep_model.specs.declared.facts.Facts.{Facts}
use Rattle.dep_model.specs.declared.graph.Graph.{Graph}
use Rattle.dep_model.specs.declared.graph.OutRow.{OutRow}
use Rattle.dep_model.specs.declared.vertex.Vertex.{Vertex}
use Rattle.dep_model.specs.Criteria.{criterion_of}
use Rattle.dep_model.specs.Facts.{AreTrueFacts, HoldsFact, IsMatchedPath, IsTrueFact}
use Rattle.dep_model.specs.Graphs.{IsGraphOf, fact_words, out_rows}
use Rattle.dep_model.specs.SystemGraph.{vertices_of}
use Rattle.dep_model.proofs.OneAnalysis.{one_analysis, same_edges}
use Rattle.slice_engine.specs.Engine.{AreFactsOf, AreVerticesIn, AreVerticesOf}
use Rattle.slice_engine.specs.Slice.{starts_on}
use Rattle.slice_engine.proofs.CriterionLaws.{length-criterion}
use Rattle.slice_engine.proofs.FirstMembers.{members_inside}
use Rattle.slice_engine.proofs.OneSlice.{path_among}

-- ---- vertices

module _ (p : Program) (g h : Graph) (first : IsGraphOf p g) (second : IsGraphOf p h) where
  pub same_vertices : h.vertices ≡ g.vertices
  same_vertices =
      second.is_graph.vertices_are ∙ ap (vertices_of p) (one_analysis p second.analysis first.analysis second.is_analysis first.is_analysis)
      ∙ sym first.is_graph.vertices_are

  same_rows : h.outs ≡ g.outs
  same_rows = second.is_graph.rows_are.outs_are ∙ ap out_rows same_vertices ∙ sym first.is_graph.rows_are.outs_are

  same_words : h.fact_words ≡ g.fact_words
  same_words = second.is_graph.rows_are.words_are ∙ ap fact_words same_vertices ∙ sym first.is_graph.rows_are.words_are

  -- but for the order of its edges, one graph is the other
  same_graph : h ≡ record { vertices = g.vertices; edges = h.edges; outs = g.outs; fact_words = g.fact_words }
  same_graph =
      ap (λ (vs : List Vertex). record { vertices = vs; edges = h.edges; outs = h.outs; fact_words = h.fact_words }) same_vertices
      ∙ ap (λ (rows : List OutRow). record { vertices = g.vertices; edges = h.edges; outs = rows; fact_words = h.fact_words }) same_rows
      ∙ ap (λ (n : ℕ). record { vertices = g.vertices; edges = h.edges; outs = g.outs; fact_words = n }) same_words

  edges_there : (e : Edge) → Contains g.edges e → Contains h.edges e
  edges_there =
      same_edges p first.analysis second.analysis g.edges h.edges first.is_analysis second.is_analysis first.is_graph.edges_are second.is_graph.edges_are

  edges_back : (e : Edge) → Contains h.edges e → Contains g.edges e
  edges_back =
      same_edges p second.analysis first.analysis h.edges g.edges second.is_analysis first.is_analysis second.is_graph.edges_are first.is_graph.edges_are

-- the numbers of the criterion in one graph are its numbers in each
pub vertices_in_each : (p : Program) (g : Graph) (line : ℕ) (numbers : List ℕ) → IsGraphOf p g → AreVerticesIn p g line numbers → AreVerticesOf p line numbers
vertices_in_each p g line numbers first are h second =
    let same = sym (same_vertices p g h first second) in
    record {
      members = λ v. (
        λ here. (are.members v).0 (subst (λ vs. IsTrue (has (criterion_of (starts_on p line) vs) v)) (sym same) here),
        λ c. subst (λ vs. IsTrue (has (criterion_of (starts_on p line) vs) v)) same ((are.members v).1 c),
      );
      ascending = are.ascending;
    }

-- and each is below the number of vertices
pub vertices_inside : (p : Program) (g : Graph) (line : ℕ) (numbers : List ℕ) → AreVerticesIn p g line numbers → All (λ v. v < length g.vertices) numbers
vertices_inside p g line numbers are = λ k d low.
    members_inside (criterion_of (starts_on p line) g.vertices) numbers (length g.vertices) are.members (length-criterion (starts_on p line) g.vertices) _ (Contains-get_or numbers k d low)

-- ---- facts

-- a matched path is one among the same edges
matched_among : (es fs : List Edge) → ((e : Edge) → Contains es e → Contains fs e) → (a b : ℕ) → IsMatchedPath es a b → IsMatchedPath fs a b
matched_among es fs each a b m = record { path = m.path; joins = path_among es fs each m.path a b m.joins; matched = m.matched }

-- the true facts of a graph are those of one with the same vertices, rows and edges
module _ (g : Graph) (fs : List Edge) (each : (e : Edge) → Contains g.edges e → Contains fs e) (back : (e : Edge) → Contains fs e → Contains g.edges e) where
  abbrev other : Graph
  other = record { vertices = g.vertices; edges = fs; outs = g.outs; fact_words = g.fact_words }

  fact_there : (a b : ℕ) → IsTrueFact g a b → IsTrueFact other a b
  fact_there a b f = record { function = f.function; formals = f.formals; joined = matched_among g.edges fs each a b f.joined }

  fact_back : (a b : ℕ) → IsTrueFact other a b → IsTrueFact g a b
  fact_back a b f = record { function = f.function; formals = f.formals; joined = matched_among fs g.edges back a b f.joined }

  held_there : (ws : List ℕ) (a b : ℕ) → HoldsFact g ws a b → HoldsFact other ws a b
  held_there ws a b h =
      let bit = h.is_bit in
      record {
        bit = h.bit;
        is_bit = record {
          function = bit.function;
          number = bit.number;
          first_word = bit.first_word;
          goes_in = bit.goes_in;
          row = bit.row;
          comes_out = bit.comes_out;
          bit_is = bit.bit_is;
        };
        set = h.set;
      }

  held_back : (ws : List ℕ) (a b : ℕ) → HoldsFact other ws a b → HoldsFact g ws a b
  held_back ws a b h =
      let bit = h.is_bit in
      record {
        bit = h.bit;
        is_bit = record {
          function = bit.function;
          number = bit.number;
          first_word = bit.first_word;
          goes_in = bit.goes_in;
          row = bit.row;
          comes_out = bit.comes_out;
          bit_is = bit.bit_is;
        };
        set = h.set;
      }

  facts_there : (ws : List ℕ) → AreTrueFacts g ws → AreTrueFacts other ws
  facts_there ws are = record {
    words = record { long = are.words.long; clean = are.words.clean };
    exact = λ a b. (λ h. fact_there a b ((are.exact a b).0 (held_back ws a b h)), λ f. held_there ws a b ((are.exact a b).1 (fact_back a b f)));
  }

-- the true facts of one graph of a program are those of each
pub facts_of_each : (p : Program) (g : Graph) (facts : Facts) → IsGraphOf p g → AreTrueFacts g facts.words → AreFactsOf p facts
facts_of_each p g facts first are h second =
    subst (λ (x : Graph). AreTrueFacts x facts.words) (sym (same_graph p g h first second))
    (facts_there g h.edges (edges_there p g h first second) (edges_back p g h first second) facts.words are)
