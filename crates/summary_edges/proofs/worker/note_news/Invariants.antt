use Rattle.std.proofs.Common.{◌≡◌, length}
use Rattle.summary_edges.proofs.GoingOnLaws.{IsNoting}
use Rattle.summary_edges.proofs.worker.note_news.Given as goal

abbrev pub invariant-loop-word : goal.invariant-loop-word
invariant-loop-word l = record {
  long : length l.news ≡ length l.initial.news;
  noting : IsNoting l.part l.own l.known l.initial.news l.word l.news;
}
