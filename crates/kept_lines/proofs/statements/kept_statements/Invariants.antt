use Rattle.std.proofs.Common.{◌≡◌, ◌||◌, ℕ, drop}
use Rattle.bit_rows.specs.Sets.{has}
use Rattle.dep_model.specs.declared.vertex.Vertex.{Vertex}
use Rattle.dep_model.specs.FunctionVertices.{is_own}
use Rattle.projection.specs.KeptVertices.{holds}
use Rattle.kept_lines.proofs.statements.kept_statements.Given as goal

abbrev pub invariant-loop-v : goal.invariant-loop-v
invariant-loop-v l =
    (i : ℕ) → (has l.tests.items i || holds l.set (λ (v : Vertex). is_own i v.kind) l.v (drop l.v l.vertices)) ≡ holds l.set (λ (v : Vertex). is_own i v.kind) 0 l.vertices
