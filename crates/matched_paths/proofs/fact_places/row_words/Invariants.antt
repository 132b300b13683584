use Rattle.std.proofs.Common.{◌≡◌, ℕ, ◌<◌, length, get_or}
use Rattle.dep_model.specs.declared.graph.OutRow.{OutRow}
use Rattle.matched_paths.proofs.fact_places.row_words.Given as goal

abbrev pub invariant-loop-row : goal.invariant-loop-row
invariant-loop-row l = record {
  size : length l.words.items ≡ l.size;
  known : (k : ℕ) (r : OutRow) → k < l.row-index → get_or l.outs k r ≡ r → get_or l.words.items r.vertex 0 ≡ r.word;
}
