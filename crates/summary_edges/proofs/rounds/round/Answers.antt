use Rattle.std.proofs.Common.{◌≡◌, ℕ, List, length, refl, sym, ap, ◌∙◌, subst, arith}
use Rattle.crew.specs.declared.view.View.{View}
use Rattle.crew.specs.Seats.{view}
use Rattle.crew.specs.SharedWords.{Holds}
use Rattle.dep_model.specs.declared.graph.Graph.{Graph}
use Rattle.summary_edges.specs.declared.fact_truth.FactTruth.{FactTruth}
use Rattle.summary_edges.specs.FactMachine.{IsTrueBit}
use Rattle.summary_edges.specs.Rounds.{IsRoundTaken}
use Rattle.summary_edges.proofs.RoundLaws.{round_taken}
use Rattle.summary_edges.proofs.rounds.round.Goals as goal
use Rattle.summary_edges.proofs.rounds.round.Goals.{In_ok-board}

pub open-requires-clause-words : goal.open-requires-clause-words
open-requires-clause-words g c =
    let few = c.requires.index.shaped.few_words in
    let long = c.requires.sound.long in
    let same = ap (λ (xs : List ℕ). length xs) c.in_ok-start.ensures in
    omega (arith, few, long, same)

pub open-requires-clause-only_true : goal.open-requires-clause-only_true
open-requires-clause-only_true g c = λ n h.
    subst (λ (x : Graph). IsTrueBit x n) (sym c.with_index-truth.ensures.graph) (c.requires.sound.only_true n (subst (λ ws. Holds ws n) c.in_ok-start.ensures h))

-- the first seat of the board, as it was opened
opening_is : (g : _) (c : In_ok-board g) → (view c.in_ok-board.first).opening ≡ c.args.words.now
opening_is g c = ap (λ (v : View FactTruth). v.opening) c.in_ok-board.ensures.view ∙ c.in_ok-start.ensures

end_is : (g : _) (c : In_ok-board g) → (view c.in_ok-board.first).end ≡ length c.with_index-truth.result.agenda.now
end_is g c = ap (λ (v : View FactTruth). v.end) c.in_ok-board.ensures.view ∙ ap (λ (xs : List ℕ). length xs) (sym c.with_index-truth.ensures.agenda)

pub run_team-requires-clause-taken : goal.run_team-requires-clause-taken
run_team-requires-clause-taken g c κs within = λ i d low.
    let like = (c.in_ok-seats.ensures.each i d low).like in
    let graph = c.with_index-truth.ensures.graph in
    record {
      ready = c.with_index-truth.ensures.ready;
      of_board = like.board ∙ c.in_ok-board.ensures.board;
      opened = record {
        truth = c.with_index-truth.result;
        truth_is = like.truth_is ∙ ap (λ (v : View FactTruth). v.truth) c.in_ok-board.ensures.view;
        graph_is = refl;
        agenda_is = refl;
        long = ap (λ (xs : List ℕ). length xs) (like.opening_is ∙ ap (λ (v : View FactTruth). v.opening) c.in_ok-board.ensures.view ∙ c.in_ok-start.ensures) ∙ c.requires.sound.long ∙ ap (λ (x : Graph). x.fact_words) (sym graph);
        end_is = like.end_is ∙ ap (λ (v : View FactTruth). v.end) c.in_ok-board.ensures.view ∙ ap (λ (xs : List ℕ). length xs) (sym c.with_index-truth.ensures.agenda);
      };
    }

pub join_all-requires-clause-board : goal.join_all-requires-clause-board
join_all-requires-clause-board g c = λ i d low.
    let back = c.in_ok-all.ensures.each c.in_ok-board.first c.in_ok-seats.ensures.each i d low in
    back.like.board ∙ c.in_ok-board.ensures.board

pub returns : goal.returns
returns g c =
    let at = (goal.at.returns g c).In_ok-board in
    let gr = c.args.g.now in
    let t = c.with_index-truth.result in
    let first = c.in_ok-board.first in
    let s = c.in_ok-seat.seat in
    let finished = c.in_ok-seat.ensures.finished t first (c.in_ok-all.ensures.each first c.in_ok-seats.ensures.each) in
    let closed = c.in_ok-words.ensures in
    subst (λ agenda. IsRoundTaken gr agenda c.args.words.now c.in_ok-words.words.items) c.with_index-truth.ensures.agenda
    (round_taken gr c.requires.index.shaped t c.with_index-truth.ensures.graph first s c.args.words.now c.in_ok-words.words.items (ap (λ (v : View FactTruth). v.truth) c.in_ok-board.ensures.view) (opening_is g at) (end_is g at)
    c.requires.sound.long finished closed.words (λ u n is h. closed.only_true u n is h) closed.has_seen (closed.drawn finished.done))
