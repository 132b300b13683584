use Rattle.summary_edges.specs.Steps.{HasAdded}
use Rattle.summary_edges.proofs.StepLaws.{ReadWords}
use Rattle.summary_edges.proofs.step.read_vertex.Given as goal

abbrev pub invariant-loop-word : goal.invariant-loop-word
invariant-loop-word l = HasAdded l.g l.part (ReadWords l.g l.part l.table l.vertex l.word) l.initial.words l.words l.grows
