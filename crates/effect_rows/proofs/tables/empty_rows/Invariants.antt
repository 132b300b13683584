use Rattle.std.proofs.Common.{◌≤◌, ◌-◌}
use Rattle.effect_rows.specs.Noted.{AreEmptyRows}
use Rattle.effect_rows.proofs.tables.empty_rows.Given as goal

abbrev pub invariant-loop-at : goal.invariant-loop-at
invariant-loop-at l = record {
  within : l.at ≤ l.count;
  empty : AreEmptyRows l.at l.rows.items;
}

abbrev pub decreases-loop-at : goal.decreases-loop-at
decreases-loop-at l = l.count - l.at
