use Rattle.std.proofs.Common.{◌≡◌, ◌≢◌, ℕ, ◌+◌, ◌-◌, ◌*◌, ◌<◌, ◌≤◌}
use Rattle.crew.specs.Seats.{view, board_of}
use Rattle.crew.specs.SharedWords.{Holds, bit}
use Rattle.summary_edges.specs.Workers.{HasLearned}
use Rattle.summary_edges.proofs.worker.publish_gain.Given as goal

abbrev pub invariant-loop-word : goal.invariant-loop-word
invariant-loop-word l = record {
  board : board_of l.seat ≡ board_of l.initial.seat;
  learned : HasLearned (view l.initial.seat) (view l.seat);
  knows : (w i : ℕ) → l.part.first_word ≤ w → w < l.word → i < 64 → bit l.known w i ≡ 1 → bit l.before (w - l.part.first_word) i ≢ 1 → Holds (view l.seat).seen (64 * w + i);
}
