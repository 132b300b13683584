-- The graph of a program: what it is made from, and which of its quantities are above their numbers.
use Rattle.std.proofs.Common.{Result, Ok, Err, ◌≡◌, ◌+◌, ◌<◌, ◌≤◌, length, sym, ap, ◌∙◌, subst, arith}
use Rattle.std.specs.Result.{IfErr, IsErrAnd}
use Rattle.c_tree.specs.declared.limits.LimitName.{LimitName}
use Rattle.c_tree.specs.declared.limits.LimitName.TheVariants as limit
use Rattle.c_tree.specs.declared.program.Program.{Program}
use Rattle.c_language.specs.Programs.{IsWellFormed}
use Rattle.dep_model.specs.declared.graph.Graph.{Graph}
use Rattle.dep_model.specs.declared.graph_fault.GraphFault.{GraphFault}
use Rattle.dep_model.specs.declared.graph_fault.GraphFault.TheVariants.{Limit}
use Rattle.dep_model.specs.declared.points_to.Effects.{Effects}
use Rattle.dep_model.specs.declared.points_to.PointsTo.{PointsTo}
use Rattle.dep_model.specs.declared.skeleton.Skeleton.{Skeleton}
use Rattle.dep_model.specs.Graphs.{fact_words, IsGraph, IsGraphOf}
use Rattle.dep_model.specs.LocationLists.{location_list, AreListedOnce}
use Rattle.dep_model.specs.LocationRows.{analysis_of, points_of, ArePointsRows}
use Rattle.dep_model.specs.Skeletons.{IsSkeleton}
use Rattle.dep_model.specs.SystemGraph.{IsAnalysis, vertices_of}
use Rattle.dep_model.proofs.LocationsOnce.{listed_once}
use Rattle.dep_model.proofs.OneAnalysis.{one_analysis}
use Rattle.mod_ref.specs.Effects.{AreEffectsByPlace}
use Rattle.mod_ref.proofs.PlacedEffects.{are_rows}
use Rattle.numbered_texts.proofs.ListedEffects.{effects_listed}
use Rattle.numbered_texts.proofs.NumbersButLines.{named_exist, statements_numbered}
use Rattle.program_graph.specs.Given.{HasSkeleton}
use Rattle.vertex_layout.specs.Limits.{IsWithin, IsBeyond, vertices, words}
use Rattle.slice_engine.specs.Engine.{IsWithinLimits}
use Rattle.slice_engine.specs.GraphLimits.{IsAboveGraphLimit, locations, vertices as many_vertices, words as many_words}

-- ---- what it is made from

pub well_listed : (p : Program) → IsWellFormed p → AreListedOnce p
well_listed p well = listed_once p (statements_numbered p well)

module _ (p : Program) (t : PointsTo) (e : Effects) (well : IsWellFormed p) (points : ArePointsRows p t) (effects : AreEffectsByPlace p (points_of p t) e) where
  -- the rows say the analysis of the program
  pub analysed : IsAnalysis p (analysis_of p t e)
  analysed = record {
    points_are = points.exact;
    effects_are = (are_rows p (points_of p t) e (λ f l. effects_listed p (points_of p t) (named_exist p well) f l) effects).exact;
  }

  -- so the program's graph is the one by these rows
  pub graph_by_rows : (g : Graph) → IsGraphOf p g → IsGraph p (analysis_of p t e) g
  graph_by_rows g of_program = subst (λ a. IsGraph p a g) (one_analysis p of_program.analysis (analysis_of p t e) of_program.is_analysis analysed) of_program.is_graph

  pub has_skeleton : (s : Skeleton) → length (location_list p) ≤ 4096 → IsSkeleton p (analysis_of p t e) s → IsWithin s.vertices → HasSkeleton p s
  has_skeleton s few is within = record {
    well_formed = well;
    analysis = analysis_of p t e;
    is_analysis = analysed;
    is_skeleton = is;
    few_locations = few;
    few_vertices = within.few;
    few_words = within.few_words;
  }

  beyond_is_above : length (location_list p) ≤ 4096 → (n : LimitName) → IsBeyond (vertices_of p (analysis_of p t e)) n → IsAboveGraphLimit p n
  beyond_is_above few _ (vertices many) = many_vertices few analysed many
  beyond_is_above few _ (words small many) = many_words few analysed small many

  -- what is told of vertices and words is told by the answer that passes it on
  pub above_vertices : (r : Result Graph GraphFault) (f : GraphFault) → IsErrAnd r (λ y. y ≡ f) → length (location_list p) ≤ 4096
      → ((n : LimitName) → f ≡ Limit n → IsBeyond (vertices_of p (analysis_of p t e)) n) → IfErr r (λ y. (n : LimitName) → y ≡ Limit n → IsAboveGraphLimit p n)
  above_vertices (Ok g) f h few told = absurd h
  above_vertices (Err y) f h few told = λ n is. beyond_is_above few n (told n (sym h ∙ is))

-- what is told of locations is told by the answer that passes it on
pub above_locations : {A : Type 0} (p : Program) (r : Result A GraphFault) (f : GraphFault) → IsErrAnd r (λ e. e ≡ f)
    → ((n : LimitName) → f ≡ Limit n → (n ≡ limit.Locations) × (4096 < length (location_list p)))
    → IfErr r (λ e. (n : LimitName) → e ≡ Limit n → IsAboveGraphLimit p n)
above_locations p (Ok list) f h told = absurd h
above_locations p (Err e) f h told = λ n is.
    let own = told n (sym h ∙ is) in
    subst (IsAboveGraphLimit p) (sym own.0) (locations own.1)

-- ---- its limits

pub is_within : (p : Program) (s : Skeleton) (g : Graph) → HasSkeleton p s → IsGraphOf p g → IsWithinLimits p g
is_within p s g h of_program =
    let one = one_analysis p of_program.analysis h.analysis of_program.is_analysis h.is_analysis in
    let same = of_program.is_graph.vertices_are ∙ ap (vertices_of p) one ∙ sym h.is_skeleton.vertices_are in
    record {
      few_locations = h.few_locations;
      few_vertices = subst (λ n. n ≤ 65536) (sym (ap length same)) h.few_vertices;
      few_words = subst (λ n. n ≤ 262144) (sym (of_program.is_graph.rows_are.words_are ∙ ap fact_words same)) h.few_words;
    }

-- the graph of a program within the limits is above none
pub none_above : (p : Program) (g : Graph) → IsGraphOf p g → IsWithinLimits p g → (n : LimitName) → IsAboveGraphLimit p n → ⊥
none_above p g of_program within n (locations many) = let few = within.few_locations in absurd (omega (arith, few, many))
none_above p g of_program within n (many_vertices {a} few is many) =
    let one = one_analysis p of_program.analysis a of_program.is_analysis is in
    let same = ap length of_program.is_graph.vertices_are ∙ ap (λ b. length (vertices_of p b)) one in
    let small = within.few_vertices in
    absurd (omega (arith, same, small, many))
none_above p g of_program within n (many_words {a} few is low many) =
    let one = one_analysis p of_program.analysis a of_program.is_analysis is in
    let same = of_program.is_graph.rows_are.words_are ∙ ap fact_words (of_program.is_graph.vertices_are ∙ ap (vertices_of p) one) in
    let small = within.few_words in
    absurd (omega (arith, same, small, many))
