use Rattle.std.proofs.Common.{◌≡◌, ℕ, ◌<◌, ◌↔◌, ◌⊎◌, IsTrue, length}
use Rattle.bit_rows.specs.Sets.{has}
use Rattle.forward_chop.specs.Fields.{IsAhead, IsBehind}
use Rattle.forward_chop.proofs.field.Field.collect.Given as goal

abbrev pub invariant-loop-vertex : goal.invariant-loop-vertex
invariant-loop-vertex l = record {
  size : length l.into ≡ length l.initial.into;
  exact : (v : ℕ) → IsTrue (has l.into v) ↔ (IsTrue (has l.initial.into v) ⊎ ((v < l.vertex) × IsAhead l.self l.base v × IsBehind l.self l.base v));
}
