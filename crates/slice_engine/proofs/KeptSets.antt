-- What a slice keeps: the completion of what reaches the criterion.
use Rattle.std.proofs.Common.{◌≡◌, ◌↔◌, ◌<◌, ℕ, List, length, Bool, sym, ap, ◌∙◌, subst, IsTrue}
use Rattle.std.specs.Prelude.{AllPairs}
use mathlib.Core.Path.{fun_ext}
use Rattle.bit_rows.specs.Sets.{has}
use Rattle.c_tree.specs.Numbered.{Starts, program_starts}
use Rattle.c_tree.specs.declared.program.Program.{Program}
use Rattle.c_language.specs.Programs.{IsWellFormed}
use Rattle.dep_model.specs.declared.edge.Edge.{Edge}
use Rattle.dep_model.specs.declared.graph.Graph.{Graph}
use Rattle.dep_model.specs.ClosedSets.{IsMainEntry}
use Rattle.dep_model.specs.Completion.{IsCompletion}
use Rattle.dep_model.specs.Criteria.{criterion_of}
use Rattle.dep_model.specs.Graphs.{IsGraph, IsGraphOf}
use Rattle.dep_model.specs.NamedParameters.{NamesParameter}
use Rattle.dep_model.specs.SystemGraph.{Analysis, IsAnalysis, vertices_of}
use Rattle.dep_model.specs.Words.{ReachesAny}
use Rattle.dep_model.proofs.OneAnalysis.{one_analysis}
use Rattle.two_pass.specs.Ready.{PassGraph, HasMembers}
use Rattle.listed_graphs.proofs.Completions.{main_there}
use Rattle.slice_engine.specs.Criterion.{starts_among}
use Rattle.slice_engine.specs.Engine.{AreVerticesIn, AreMembers, AreMembersIn, KeepsFrom, IsKept, HasPlaces}
use Rattle.slice_engine.specs.Slice.{starts_on, IsReached, IsKeptSet}
use Rattle.slice_engine.specs.Slicing.{IsPassing}
use Rattle.slice_engine.proofs.CriterionLaws.{length-criterion}

pub reaches_from : (edges : List Edge) (from : List ℕ) (x r : List Bool) → HasMembers from x
    → ((s : List Bool) → HasMembers from s → (v : ℕ) → IsTrue (has r v) ↔ ReachesAny edges s v) → length r ≡ length x → IsReached edges x r
reaches_from edges from x r members reaches long = record { size = long; members = reaches x members }

-- the numbers of the criterion, from tests of the statements that start on the line
pub vertices_from : (p : Program) (g : Graph) (starts : Starts) (line : ℕ) (tests x : List Bool) (found : List ℕ) → starts ≡ program_starts p → ((i : ℕ) → has tests i ≡ starts_among line starts i)
    → x ≡ criterion_of (has tests) g.vertices → HasMembers found x → AllPairs (λ u v. u < v) found → AreVerticesIn p g line found
vertices_from p g starts line tests x found all each is members ascending =
    let same : has tests ≡ starts_on p line = fun_ext (λ i. each i ∙ ap (λ ss. starts_among line ss i) all) in
    record { members = subst (HasMembers found) (is ∙ ap (λ (f : ℕ → Bool). criterion_of f g.vertices) same) members; ascending = ascending }

-- from tests of the statements that start on the line
pub members_from : (p : Program) (g : Graph) (starts : Starts) (passes : PassGraph) (line : ℕ) (tests x r : List Bool) → IsPassing p g starts passes → ((i : ℕ) → has tests i ≡ starts_among line starts i)
    → x ≡ criterion_of (has tests) g.vertices → IsReached passes.edges x r → AreMembersIn p g line r
members_from p g starts passes line tests x r ready each is reached =
    let same : has tests ≡ starts_on p line = fun_ext (λ i. each i ∙ ap (λ ss. starts_among line ss i) ready.prepared.starts_are) in
    let along = subst (λ (h : PassGraph). IsReached h.edges x r) ready.passes_are reached in
    subst (λ y. IsReached g.edges y r) (is ∙ ap (λ (f : ℕ → Bool). criterion_of f g.vertices) same) along

-- a criterion has the size of the passes
pub criterion_size : (p : Program) (g : Graph) (starts : Starts) (passes : PassGraph) (tests : ℕ → Bool) (x : List Bool) → IsPassing p g starts passes → x ≡ criterion_of tests g.vertices → length x ≡ passes.size
criterion_size p g starts passes tests x ready is = ap length is ∙ length-criterion tests g.vertices ∙ sym (ap (λ (h : PassGraph). h.size) ready.passes_are)

-- what reaches the criterion in the graph of a program
pub members_are : (p : Program) (g : Graph) (line : ℕ) (r : List Bool) → IsGraphOf p g → AreMembersIn p g line r → AreMembers p line r
members_are p g line r of_program members = record {
  analysis = of_program.analysis;
  is_analysis = of_program.is_analysis;
  edges = g.edges;
  are_edges = of_program.is_graph.edges_are;
  is_reached = subst (λ vs. IsReached g.edges (criterion_of (starts_on p line) vs) r) of_program.is_graph.vertices_are members;
}

-- ---- sets of its vertices

pub members_size : (p : Program) (g : Graph) (line : ℕ) (r : List Bool) → AreMembersIn p g line r → length r ≡ length g.vertices
members_size p g line r members = members.size ∙ length-criterion (starts_on p line) g.vertices

-- all graphs of a program have as many vertices
pub has_places : (p : Program) (g : Graph) (s : List Bool) → IsGraphOf p g → length s ≡ length g.vertices → HasPlaces p s
has_places p g s of_program size h also =
    let one = one_analysis p of_program.analysis also.analysis of_program.is_analysis also.is_analysis in
    size ∙ ap length (of_program.is_graph.vertices_are ∙ ap (vertices_of p) one ∙ sym also.is_graph.vertices_are)

module _ (p : Program) (a : Analysis) (well : IsWellFormed p) (is : IsAnalysis p a) where
  -- what is kept from the criterion is what the slice keeps
  pub kept_set : (line : ℕ) (g : Graph) (k : List Bool) → IsGraph p a g → KeepsFrom p g line k → IsKeptSet p a line k
  kept_set line g k of_program keeps =
      let same = of_program.vertices_are in
      let main = main_there p a well in
      record {
        is_analysis = is;
        edges = g.edges;
        are_edges = of_program.edges_are;
        reached = keeps.reached;
        is_reached = subst (λ vs. IsReached g.edges (criterion_of (starts_on p line) vs) keeps.reached) same keeps.are_members;
        completes = record {
          main = main.0;
          is_entry = main.1;
          completes = subst (λ vs. IsCompletion g.edges (NamesParameter p vs) main.0 keeps.reached k) same (keeps.completes main.0 (subst (λ vs. IsMainEntry p vs main.0) (sym same) main.1));
        };
      }

-- what is kept in the graph of a program is what the slice keeps
pub kept_is : (p : Program) (g : Graph) (line : ℕ) (k : List Bool) → IsWellFormed p → IsGraphOf p g → KeepsFrom p g line k → IsKept p line k
kept_is p g line k well of_program keeps = record {
  analysis = of_program.analysis;
  is_kept = kept_set p of_program.analysis well of_program.is_analysis line g k of_program.is_graph keeps;
}
