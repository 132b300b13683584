use Rattle.std.proofs.Common.{◌≡◌, ◌++◌, drop}
use Rattle.run_text.specs.Lines.{values_words}
use Rattle.run_text.proofs.lines.append_values.Given as goal

abbrev pub invariant-loop-value : goal.invariant-loop-value
invariant-loop-value l = l.text ++ values_words (drop l.value-index l.values) ≡ l.initial.text ++ values_words l.values
