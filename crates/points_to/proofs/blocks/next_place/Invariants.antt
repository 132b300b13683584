use Rattle.std.proofs.Common.{◌≡◌, ◌<◌, ◌≤◌, ◌-◌, ℕ, false}
use Rattle.bit_rows.specs.Sets.{has}
use Rattle.bit_rows.specs.Tables.{the_set}
use Rattle.points_to.proofs.blocks.next_place.Given as goal

abbrev pub invariant-loop-at : goal.invariant-loop-at
invariant-loop-at l = record {
  later : l.place ≤ l.at;
  inside : l.at ≤ l.end;
  passed : (k : ℕ) → l.place ≤ k → k < l.at → has (the_set l.rows l.row) k ≡ false;
}

abbrev pub decreases-loop-at : goal.decreases-loop-at
decreases-loop-at l = l.end - l.at
