use Rattle.std.proofs.Common.{◌≡◌, ℕ, ◌||◌, drop}
use Rattle.bit_rows.specs.Sets.{has}
use Rattle.dep_model.specs.declared.vertex.Vertex.{Vertex}
use Rattle.dep_model.specs.FunctionVertices.{is_own, is_entry, passes}
use Rattle.projection.specs.KeptVertices.{is_result, is_argument, is_parameter, holds}
use Rattle.kept_numbers.specs.Pairs.{marked}
use Rattle.projection.proofs.parts.KeptParts.of.Given as goal

abbrev pub invariant-loop-number : goal.invariant-loop-number
invariant-loop-number l = record {
  statements : (i : ℕ) → (has l.parts.statements.items i || holds l.kept (λ (v : Vertex). is_own i v.kind) l.number (drop l.number l.vertices)) ≡ holds l.kept (λ (v : Vertex). is_own i v.kind) 0 l.vertices;
  results : (i : ℕ) → (has l.parts.results.items i || holds l.kept (λ (v : Vertex). is_result i v.kind) l.number (drop l.number l.vertices)) ≡ holds l.kept (λ (v : Vertex). is_result i v.kind) 0 l.vertices;
  arguments : (i n : ℕ) → (marked l.parts.arguments i n || holds l.kept (λ (v : Vertex). is_argument i n v.kind) l.number (drop l.number l.vertices)) ≡ holds l.kept (λ (v : Vertex). is_argument i n v.kind) 0 l.vertices;
  functions : (f : ℕ) → (has l.parts.functions.items f || holds l.kept (passes is_entry f) l.number (drop l.number l.vertices)) ≡ holds l.kept (passes is_entry f) 0 l.vertices;
  parameters : (f n : ℕ) → (marked l.parts.parameters f n || holds l.kept (passes (is_parameter n) f) l.number (drop l.number l.vertices)) ≡ holds l.kept (passes (is_parameter n) f) 0 l.vertices;
}
