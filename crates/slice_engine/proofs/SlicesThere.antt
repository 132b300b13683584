-- Each line has its slice in a well-formed program: what is kept there is a set, and its lines are a list.
use Rattle.std.proofs.Common.{◌≡◌, ◌↔◌, ℕ, ◌<◌, ◌⊎◌, List, ◌++◌, map, length, slice_get, Bool, Some, inl, inr, refl, ap, ◌∙◌, arith}
use Rattle.std.specs.Prelude.{Contains}
use Rattle.std.specs.List.{range_with_len}
use Rattle.std.proofs.lemmas.Bool.{cases_lt, cases_eq}
use Rattle.std.proofs.lemmas.List.FromFn.{length-map-range_with_len, get_or-map-range_with_len}
use Rattle.std.proofs.lemmas.Option.{slice_get-get_or}
use Rattle.c_tree.specs.declared.program.Program.{Program}
use Rattle.c_language.specs.Layout.{layout}
use Rattle.c_language.specs.Programs.{IsWellFormed}
use Rattle.c_print.specs.Lines.{line_of}
use Rattle.dep_model.specs.declared.edge.Edge.{Edge}
use Rattle.dep_model.specs.SystemGraph.{Analysis, vertices_of, AreSystemEdges}
use Rattle.dep_model.proofs.Membership.{in_of_contains, contains_of_in}
use Rattle.listed_graphs.proofs.Ascending.{Sorted, sorted, all_pairs_of}
use Rattle.listed_graphs.proofs.Graphs.{analysis_there, edges_there, are_edges}
use Rattle.listed_graphs.proofs.SetsThere.{sets_reached, sets_completed}
use Rattle.slice_engine.specs.Criterion.{by_rank}
use Rattle.slice_engine.specs.Engine.{IsSlicedAt}
use Rattle.slice_engine.specs.Header.{shown_lines}
use Rattle.slice_engine.specs.Laws.{LinesHaveOneSlice}
use Rattle.slice_engine.specs.Slice.{starts_on, criterion, IsKeptSet, keeps, sliced, header}
use Rattle.slice_engine.proofs.CriterionLaws.{length-criterion}
use Rattle.slice_engine.proofs.OneSlice.{slice_one}
use Rattle.slice_engine.proofs.RankTests.{at_rank, of_rank, length-by_rank}
use Rattle.slice_engine.proofs.SliceLaws.{is_slice}

-- ---- what is kept

-- by some analysis a set is what the slice at a line keeps
record KeptThere (p : Program) (line : ℕ) : Type 0 where
  analysis : Analysis
  kept : List Bool
  is_kept : IsKeptSet p analysis line kept

kept_there : (p : Program) → IsWellFormed p → (line : ℕ) → KeptThere p line
kept_there p well line =
    let found = analysis_there p well in
    let a = found.0 in
    let edges : List Edge = edges_there p a well in
    let are : AreSystemEdges p a edges = are_edges p a well in
    let long = length-criterion (starts_on p line) (vertices_of p a) in
    let reached = sets_reached p a edges (criterion p a line) are long in
    let kept = sets_completed p a edges reached.0 well are (reached.1.size ∙ long) in
    record {
      analysis = a;
      kept = kept.0;
      is_kept = record {
        is_analysis = found.1.is_analysis;
        edges = edges;
        are_edges = are;
        reached = reached.0;
        is_reached = record { size = reached.1.size; members = reached.1.exact };
        completes = kept.1;
      };
    }

module _ (p : Program) (well : IsWellFormed p) (line : ℕ) where
  abbrev k : KeptThere p line
  k = kept_there p well line

  abbrev test : ℕ → Bool
  test = keeps p k.analysis k.kept

  abbrev q : Program
  q = sliced p k.analysis k.kept

  abbrev in_criterion : List Bool
  in_criterion = by_rank test (starts_on p line) p.statements

  sliced_there : IsSlicedAt p line q in_criterion
  sliced_there = record {
    analysis = k.analysis;
    kept = k.kept;
    is_kept = k.is_kept;
    program_is = refl;
    in_criterion_long = length-by_rank test (starts_on p line) p.statements;
    in_criterion_are = λ i low h. at_rank test (starts_on p line) i p.statements low h;
    in_criterion_only = λ r h. let w = of_rank test (starts_on p line) p.statements r h in (w.number, w.below, w.kept, w.at);
  }

  -- ---- its lines

  abbrev lines : List ℕ
  lines = map (line_of q) (range_with_len 0 q.statements)

  all_lines : (id : ℕ) → id < q.statements → slice_get lines id ≡ Some (line_of q id)
  all_lines id low =
      let inside : id < length lines = (let long = length-map-range_with_len (line_of q) 0 q.statements in omega (arith, low, long)) in
      slice_get-get_or lines id 0 inside ∙ ap (λ (n : ℕ). Some n) (get_or-map-range_with_len (line_of q) 0 q.statements id id 0 low (omega arith))

  less_trans : (x y z : ℕ) → x < y → y < z → x < z
  less_trans x y z h j = omega (arith, h, j)

  less_order : (x y : ℕ) → (x < y) ⊎ ((x ≡ y) ⊎ (y < x))
  less_order x y = elim (cases_lt x y) [
    | inl less ↦ inl less
    | inr most ↦ elim (cases_eq x y) [ inl same ↦ inr (inl same) | inr other ↦ inr (inr (omega (arith, most, other))) ]
  ]

  shown : Sorted (λ x y. x < y) less_trans less_order (shown_lines in_criterion lines)
  shown = sorted (λ x y. x < y) less_trans less_order (shown_lines in_criterion lines)

  all_shown : (n : ℕ) → Contains shown.items n ↔ Contains (shown_lines in_criterion lines) n
  all_shown n = (
    λ c. contains_of_in (shown_lines in_criterion lines) n ((shown.exact n).0 (in_of_contains shown.items n c)),
    λ c. contains_of_in shown.items n ((shown.exact n).1 (in_of_contains (shown_lines in_criterion lines) n c)),
  )

pub lines_have_one_slice : LinesHaveOneSlice
lines_have_one_slice p line well =
    let found = shown p well line in
    let text = header line found.items ++ layout (q p well line) in
    let is = is_slice p line (q p well line) (in_criterion p well line) well (sliced_there p well line) (lines p well line) found.items text (all_lines p well line)
    (all_pairs_of (λ x y. x < y) (less_trans p well line) (less_order p well line) found.items found.ascends) (all_shown p well line) refl in
    (text, record { is_slice = is; one = λ u h. slice_one p line u text h is })
