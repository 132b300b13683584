use Rattle.std.proofs.Common.{◌≡◌, ◌-◌, ◌<◌, ◌↔◌, ℕ, IsTrue}
use Rattle.bit_rows.specs.Sets.{has}
use Rattle.matched_paths.specs.VertexRanges.{IsInRange}
use Rattle.forward_chop.specs.Fields.{HaveMarksChanged, IsFitted}
use Rattle.forward_chop.specs.Pairs.{asks}
use Rattle.forward_chop.proofs.field.Field.mark_outs.Given as goal

abbrev pub invariant-loop-out : goal.invariant-loop-out
invariant-loop-out l = record {
  fitted : IsFitted l.self;
  changed : HaveMarksChanged l.initial.self l.self;
  same : l.self.reached ≡ l.initial.self.reached;
  exact : (k : ℕ) → IsTrue (has l.self.reaching k) ↔ ((o : ℕ) × (o < l.out) × IsTrue (asks l.wanted l.way_in o) × IsInRange l.initial.self.range o × (k ≡ o - l.initial.self.range.first));
}
