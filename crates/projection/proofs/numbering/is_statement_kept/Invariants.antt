use Rattle.std.proofs.Common.{◌≡◌, drop}
use Rattle.dep_model.specs.declared.vertex.Vertex.{Vertex}
use Rattle.dep_model.specs.FunctionVertices.{is_own}
use Rattle.projection.specs.KeptVertices.{holds}
use Rattle.projection.proofs.numbering.is_statement_kept.Given as goal

abbrev pub invariant-loop-number : goal.invariant-loop-number
invariant-loop-number l = holds l.kept (λ (v : Vertex). is_own l.id v.kind) l.number (drop l.number l.vertices) ≡ holds l.kept (λ (v : Vertex). is_own l.id v.kind) 0 l.vertices
