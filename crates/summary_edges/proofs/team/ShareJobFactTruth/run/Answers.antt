use Rattle.std.proofs.lemmas.Bool.{false≢true}
use Rattle.summary_edges.proofs.team.ShareJobFactTruth.run.Goals as goal

pub returns-in-Ok : goal.returns-in-Ok
returns-in-Ok g c = record {
  board = c.work.ensures.board;
  kept = c.work.ensures.kept;
  done = λ e. c.in-Ok.ensures.done;
  knows = λ e. c.in-Ok.ensures.knows;
}

pub returns-in-Err : goal.returns-in-Err
returns-in-Err g c = record {
  board = c.work.ensures.board;
  kept = c.work.ensures.kept;
  done = λ e. absurd (false≢true e);
  knows = λ e. absurd (false≢true e);
}
