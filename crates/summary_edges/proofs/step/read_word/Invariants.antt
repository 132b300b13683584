use Rattle.std.proofs.Common.{◌*◌}
use Rattle.summary_edges.specs.Steps.{HasAdded}
use Rattle.summary_edges.proofs.StepLaws.{ReadFrom}
use Rattle.summary_edges.proofs.step.read_word.Given as goal

abbrev pub invariant-loop-exit : goal.invariant-loop-exit
invariant-loop-exit l = HasAdded l.g l.part (ReadFrom l.g l.part l.table l.formal_in (64 * l.fn.word) l.exit) l.initial.words l.words l.grows
