-- What the graph of a program is made from, where rows say the program's analysis.
use Rattle.std.proofs.Common.{◌≡◌, ◌≤◌, length, sym, ap, ◌∙◌, subst}
use Rattle.c_tree.specs.declared.program.Program.{Program}
use Rattle.c_language.specs.Programs.{IsWellFormed}
use Rattle.dep_model.specs.declared.graph.Graph.{Graph}
use Rattle.dep_model.specs.declared.points_to.Effects.{Effects}
use Rattle.dep_model.specs.declared.points_to.PointsTo.{PointsTo}
use Rattle.dep_model.specs.declared.skeleton.Skeleton.{Skeleton}
use Rattle.dep_model.specs.Graphs.{fact_words, IsGraphOf}
use Rattle.dep_model.specs.LocationLists.{location_list}
use Rattle.dep_model.specs.LocationRows.{analysis_of, points_of, ArePointsRows}
use Rattle.dep_model.specs.Skeletons.{IsSkeleton}
use Rattle.dep_model.specs.SystemGraph.{IsAnalysis, vertices_of}
use Rattle.dep_model.proofs.OneAnalysis.{one_analysis}
use Rattle.mod_ref.specs.Effects.{AreEffectsByPlace}
use Rattle.mod_ref.proofs.PlacedEffects.{are_rows}
use Rattle.numbered_texts.proofs.ListedEffects.{effects_listed}
use Rattle.numbered_texts.proofs.NumbersButLines.{named_exist}
use Rattle.program_graph.specs.Given.{HasSkeleton}
use Rattle.shaped_graphs.proofs.ShapedGraphs.{graphs_are_shaped}
use Rattle.vertex_layout.specs.Limits.{IsWithin}
use Rattle.analysis_tests.specs.Ready.{IsGraphReady}

module _ (p : Program) (t : PointsTo) (e : Effects) (well : IsWellFormed p) (points : ArePointsRows p t) (effects : AreEffectsByPlace p (points_of p t) e) where
  analysed : IsAnalysis p (analysis_of p t e)
  analysed = record {
    points_are = points.exact;
    effects_are = (are_rows p (points_of p t) e (λ f l. effects_listed p (points_of p t) (named_exist p well) f l) effects).exact;
  }

  pub has_skeleton : (s : Skeleton) → length (location_list p) ≤ 4096 → IsSkeleton p (analysis_of p t e) s → IsWithin s.vertices → HasSkeleton p s
  has_skeleton s few is within = record {
    well_formed = well;
    analysis = analysis_of p t e;
    is_analysis = analysed;
    is_skeleton = is;
    few_locations = few;
    few_vertices = within.few;
    few_words = within.few_words;
  }

-- the graph that is made from one can be searched
pub graph_ready : (p : Program) (s : Skeleton) (g : Graph) → HasSkeleton p s → IsGraphOf p g → IsGraphReady p g
graph_ready p s g h of_program =
    let one = one_analysis p of_program.analysis h.analysis of_program.is_analysis h.is_analysis in
    let same = of_program.is_graph.vertices_are ∙ ap (vertices_of p) one ∙ sym h.is_skeleton.vertices_are in
    let few : length g.vertices ≤ 65536 = subst (λ n. n ≤ 65536) (sym (ap length same)) h.few_vertices in
    let few_words : g.fact_words ≤ 262144 = subst (λ n. n ≤ 262144) (sym (of_program.is_graph.rows_are.words_are ∙ ap fact_words same)) h.few_words in
    record {
      is_graph = of_program;
      shaped = graphs_are_shaped p g h.well_formed of_program few few_words;
      few = few;
    }

-- the tables of a skeleton have a row for each vertex
pub defined_long : (p : Program) (s : Skeleton) → HasSkeleton p s → length s.defined.sets ≡ length s.vertices
defined_long p s h = h.is_skeleton.defined_are.sized.rows_are ∙ ap length (sym h.is_skeleton.vertices_are)
