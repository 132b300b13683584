-- A program and its slice keep the premises of the law on slices, where they go together step by step.
use Rattle.std.proofs.Common.{◌≡◌, ℕ, List, map, false, sym, ◌∙◌}
use Rattle.std.proofs.lemmas.Bool.{false≢true}
use Rattle.c_meaning.specs.Meaning.{Trace, Ended, meaning, at}
use Rattle.dep_model.specs.declared.edge.Edge.{Edge}
use Rattle.dep_model.specs.ClosedSets.{IsProjectable}
use Rattle.dep_model.specs.SystemGraph.{vertices_of, AreSystemEdges}
use Rattle.simulation.specs.Abreast.{named, SliceFollows}
use Rattle.simulation.specs.Renaming.{Names}
use Rattle.simulation.specs.Premises.{Telling, Premises}
use Rattle.simulation.specs.Settings.{Setting}
use Rattle.simulation.proofs.GrownWorlds.{grown_both}
use Rattle.simulation.proofs.Law.{slice_follows}
use Rattle.c_meaning.proofs.MeaningSteps.{meaning_is_steps}
use Rattle.simulation_locations.specs.Chained.{HasSoundCalls}
use Rattle.simulation_locations.proofs.ChainedClosing.{closing}
use Rattle.simulation_locations.proofs.ChainedRules.{wanting}
use Rattle.simulation_places.specs.Counterparts.{names_of}
use Rattle.simulation_places.proofs.Places as places
use Rattle.simulation_steps.specs.SlicePairs.{SlicePair, twin_of, setting_over}
use Rattle.simulation_values.specs.Holding.{Holds, HasReaching, IsRanked}
use Rattle.simulation_values.proofs.Together.{GoTogether}
use Rattle.simulation_values.proofs.HoldingCalls.{calls_reached}
use Rattle.simulation_values.proofs.Tellings.{telling}
use Rattle.simulation_values.proofs.SoundCalls.{sound_calls}

-- where the criterion's acts are told, the slice follows
module _ (pair : SlicePair) (edges : List Edge) (are : AreSystemEdges pair.original pair.analysis edges) (able : IsProjectable pair.original (vertices_of pair.original pair.analysis) edges pair.vertices) (holds : ℕ → Type 0) (told : Telling (setting_over pair holds)) (h : GoTogether pair holds) where
  abbrev names : Names
  names = names_of pair.kept pair.new

  sound : HasSoundCalls pair.original pair.analysis
  sound = sound_calls pair.original pair.analysis pair.well pair.analysed

  premises : Premises (setting_over pair holds)
  premises = record {
    projected = places.projected pair.original pair.slice pair.analysis pair.kept pair.new pair.vertices pair.input pair.criterion pair.ranks holds pair.projected;
    wanting = wanting pair.original pair.analysis pair.vertices (twin_of pair) holds sound;
    closing = closing pair.original pair.analysis edges pair.vertices (twin_of pair) holds sound pair.analysed are able.closed;
    staying = h.staying;
    growing = record { frames = λ w u here there g f x stays. grown_both w u g names (here x) (there (names.variable x)) (f x stays) };
    acting = h.acting;
    moving = h.moving;
    entering = h.entering;
    returning = h.returning;
    telling = told;
    beginning = h.beginning;
  }

  pub follows : SliceFollows (setting_over pair holds)
  follows = slice_follows (setting_over pair holds) premises

-- without a criterion nothing has to be told
pub silent : (pair : SlicePair) → ((i : ℕ) → pair.criterion i ≡ false) → ((i : ℕ) → pair.ranks i ≡ false) → Telling (setting_over pair (λ f. ⊥))
silent pair none none_there = record {
  act_ranks = λ x i a go r next kept. none_there (pair.new.statement i) ∙ sym (none i);
  act_kept = λ x i a go r next is. absurd (false≢true (sym (none i) ∙ is));
  call_ranks = λ x i to g args rest r next kept. none_there (pair.new.statement i) ∙ sym (none i);
  call_kept = λ x i to g args rest r next is. absurd (false≢true (sym (none i) ∙ is));
  call_stores = λ x i to g args rest r next is st. absurd (false≢true (sym (none i) ∙ is));
  call_of_holder = λ x i to g args rest r next h. absurd h;
  store_ranks = λ x a ws r next callers kept. none_there (pair.new.statement a.call) ∙ sym (none a.call);
  store_kept = λ x a ws r next callers st is. absurd (false≢true (sym (none a.call) ∙ is));
}

-- with all that reaches the criterion, the slice gives the same values there
module _ (pair : SlicePair) (edges : List Edge) (are : AreSystemEdges pair.original pair.analysis edges) (able : IsProjectable pair.original (vertices_of pair.original pair.analysis) edges pair.vertices) (reach : HasReaching pair edges) (stand : IsRanked pair) (h : GoTogether pair (λ f. Holds pair.original pair.criterion f)) where
  abbrev s : Setting
  s = setting_over pair (λ f. Holds pair.original pair.criterion f)

  pub same_trace : (n : ℕ) (t : Trace) → meaning n pair.original pair.input ≡ Ended t → (u : Trace) × (meaning n pair.slice pair.input ≡ Ended u) × (at pair.ranks u.events ≡ map (named s) (at pair.criterion t.events))
  same_trace n t e =
      let along = follows pair edges are able (λ f. Holds pair.original pair.criterion f) (telling calls_reached pair edges are reach stand) h in
      let r = along.to_end n t ((meaning_is_steps pair.original n pair.input (Ended t)).0 e) in
      (r.place.trace, (meaning_is_steps pair.slice n pair.input (Ended r.place.trace)).1 r.ends, r.values_are)
