-- The laws of the facts on a board.
use Rattle.std.proofs.Common.{◌*◌, length, arith}
use Rattle.std.specs.Prelude.{slice_index}
use Rattle.crew.specs.Rounds.{MayPut}
use Rattle.crew.proofs.BoardLaws as boards
use Rattle.crew.proofs.RoundLaws as rounds
use Rattle.matched_paths.proofs.RowPlaces.{one_fact}
use Rattle.summary_edges.specs.declared.fact_truth.FactTruth.{FactTruth}
use Rattle.summary_edges.specs.FactMachine.{IsTrueBit, IsStepBit}
use Rattle.summary_edges.specs.FactMachineLaws.{FactsStayTrue, FactsNeverShrink, WholeRoundsAreExact, SeriesAreFew, BoardsShowFacts}
use Rattle.summary_edges.specs.StepTruth.{sound_bits}
use Rattle.summary_edges.proofs.FactBits.{complete_step, listed, listed_long, truth_listed}

pub facts_stay_true : FactsStayTrue
facts_stay_true g agenda start es shaped all lawful =
    boards.events_keep_truth {T = Unit {0}} (λ _ n. IsTrueBit g n) (λ _. MayPut (IsStepBit g) agenda)
    (λ _ drawn known n holds may. sound_bits g (one_fact g shaped.rows_are) known holds (slice_index agenda may.0) n may.3)
    tt start (length agenda) es all lawful

pub facts_never_shrink : FactsNeverShrink
facts_never_shrink agenda start front back = boards.words_never_shrink start (length agenda) front back

pub whole_rounds_are_exact : WholeRoundsAreExact
whole_rounds_are_exact g start r shaped all lawful whole none outside =
    rounds.whole_round_is_exact (IsStepBit g) (IsTrueBit g) start r (λ f ws holds n s. sound_bits g (one_fact g shaped.rows_are) ws holds f n s) (complete_step g shaped (length start)) all lawful whole none outside

pub series_are_few : SeriesAreFew
series_are_few g start truth rs shaped all exact series =
    let facts = listed (64 * length truth) truth in
    let few = rounds.rounds_are_few (IsStepBit g) (IsTrueBit g) facts (λ f ws holds n s. sound_bits g (one_fact g shaped.rows_are) ws holds f n s) (truth_listed g shaped truth exact) start all rs series in
    let long = listed_long (64 * length truth) truth in
    omega (arith, few, long)

pub boards_show_facts : BoardsShowFacts
boards_show_facts t start s k =
    boards.boards_show_moments (λ (u : FactTruth) n. IsTrueBit u.graph.now n) (λ (u : FactTruth). MayPut (IsStepBit u.graph.now) u.agenda.now) t start (length t.agenda.now) s k
