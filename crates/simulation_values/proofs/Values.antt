-- A program of any form and its projection go together step by step, and so have the same values.
use Rattle.std.proofs.Common.{ℕ, List, Bool, refl}
use Rattle.std.specs.Prelude.{IsTrue}
use Rattle.bit_rows.specs.Sets.{has}
use Rattle.c_tree.specs.Unlined.{SameButLines}
use Rattle.c_tree.specs.declared.program.Program.{Program}
use Rattle.c_language.specs.Programs.{IsWellFormed}
use Rattle.dep_model.specs.declared.edge.Edge.{Edge}
use Rattle.dep_model.specs.ClosedSets.{IsProjectable}
use Rattle.dep_model.specs.Criteria.{criterion_of}
use Rattle.dep_model.specs.Doings.{program_doings}
use Rattle.dep_model.specs.SystemGraph.{Analysis, IsAnalysis, vertices_of, AreSystemEdges}
use Rattle.dep_model.specs.Words.{ReachesAny}
use Rattle.projection.specs.Kept.{Kept}
use Rattle.projection.specs.KeptVertices.{kept_words, kept_of, projection}
use Rattle.numbered_texts.proofs.NumbersButLines.{statements_numbered}
use Rattle.shaped_graphs.proofs.NumberLaws.{numbered_apart}
use Rattle.hanging_sets.specs.Hanging.{HangsTogether}
use Rattle.kept_texts.proofs.WellFormedProjections.{projectable_hangs}
use Rattle.simulation_places.specs.Counterparts.{ranks_of}
use Rattle.simulation_places.proofs.Ranks.{ranks_apart}
use Rattle.simulation_places.specs.LikeParts.{HasLikeParts}
use Rattle.simulation_programs.proofs.LikePrograms.{like_parts, projected}
use Rattle.simulation_steps.specs.OwnGlobals.{HasOwnGlobals}
use Rattle.simulation_steps.proofs.ActPremises.{acting, staying}
use Rattle.simulation_steps.proofs.Entering.{entering}
use Rattle.simulation_steps.proofs.Returning.{returning}
use Rattle.simulation_steps.specs.SlicePairs.{SlicePair, twin_of}
use Rattle.simulation_values.specs.SameValues.{StandFor, HasSameValues}
use Rattle.simulation_values.specs.Following.{none_of, Follows}
use Rattle.simulation_values.specs.Holding.{Holds}
use Rattle.simulation_values.proofs.Moves.{moving}
use Rattle.simulation_values.proofs.Openings.{beginning_together}
use Rattle.simulation_values.proofs.Together.{GoTogether}
use Rattle.simulation_values.proofs.Joint.{follows, silent, same_trace}
use Rattle.simulation_values.proofs.Likeness.{like_acts, like_calls}

module _ (p q : Program) (a : Analysis) (edges : List Edge) (kept : List Bool) (set ranks : ℕ → Bool) (ok : IsWellFormed p) (own : HasOwnGlobals p) (is_analysis : IsAnalysis p a) (are : AreSystemEdges p a edges) (able : IsProjectable p (vertices_of p a) edges kept) (same : SameButLines q (projection p (vertices_of p a) kept)) where
  abbrev k : Kept ℕ
  k = kept_of kept (vertices_of p a) p

  hangs : HangsTogether p k
  hangs = projectable_hangs p a edges kept ok are able

  like : HasLikeParts p q k (ranks_of k)
  like = like_parts p k ok hangs q same

  -- the program and its projection
  abbrev pair : List ℕ → SlicePair
  pair input = record {
    original = p;
    analysis = a;
    vertices = kept;
    kept = k;
    slice = q;
    new = ranks_of k;
    input = input;
    criterion = set;
    ranks = ranks;
    well = ok;
    numbered = statements_numbered p ok;
    own = own;
    analysed = is_analysis;
    apart = ranks_apart k;
    projected = projected p q a edges kept ok are able same;
    parts = like;
    acts = like_acts p q k (ranks_of k) hangs like;
    calls = like_calls p a kept (numbered_apart (program_doings p) p.statements (statements_numbered p ok)) q hangs like;
  }

  go_together : (input : List ℕ) (holds : ℕ → Type 0) → GoTogether (pair input) holds
  go_together input holds = record {
    staying = staying p a kept (twin_of (pair input)) holds ok is_analysis;
    acting = acting (pair input) holds;
    moving = moving (pair input) holds;
    entering = entering (pair input) holds;
    returning = returning (pair input) holds;
    beginning = beginning_together (pair input) holds;
  }

  pub projections_same_values : ((v : ℕ) → ReachesAny edges (criterion_of set (vertices_of p a)) v → IsTrue (has kept v)) → StandFor (kept_words kept (vertices_of p a)).statement set ranks → HasSameValues (kept_words kept (vertices_of p a)).statement set ranks p q
  projections_same_values reach stand n input t e = same_trace (pair input) edges are able reach stand (go_together input (λ f. Holds p set f)) n t e

-- the projection follows its original, where no criterion is told
pub projection_follows : (p q : Program) (a : Analysis) (edges : List Edge) (kept : List Bool) → IsWellFormed p → HasOwnGlobals p → IsAnalysis p a → AreSystemEdges p a edges → IsProjectable p (vertices_of p a) edges kept → SameButLines q (projection p (vertices_of p a) kept) → (input : List ℕ) → Follows p q a kept input
projection_follows p q a edges kept ok own is_analysis are able same input =
    let both = pair p q a edges kept none_of none_of ok own is_analysis are able same input in
    follows both edges are able (λ f. ⊥) (silent both (λ i. refl) (λ i. refl)) (go_together p q a edges kept none_of none_of ok own is_analysis are able same input (λ f. ⊥))
