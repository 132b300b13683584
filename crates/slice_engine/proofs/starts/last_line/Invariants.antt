use Rattle.slice_engine.proofs.StartLemmas.{IsLatest}
use Rattle.slice_engine.proofs.starts.last_line.Given as goal

abbrev pub invariant-loop-start : goal.invariant-loop-start
invariant-loop-start l = IsLatest l.starts l.start-index l.last
