use Rattle.summary_edges.specs.Steps.{HasAdded}
use Rattle.summary_edges.proofs.StepLaws.{ReadBefore}
use Rattle.summary_edges.proofs.step.read_off.Given as goal

abbrev pub invariant-loop-vertex : goal.invariant-loop-vertex
invariant-loop-vertex l = HasAdded l.g l.part (ReadBefore l.g l.part l.table l.vertex) l.initial.words l.words l.grows
