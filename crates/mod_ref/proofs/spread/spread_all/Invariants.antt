use Rattle.std.proofs.Common.{◌≡◌, length}
use Rattle.bit_rows.specs.Tables.{IsSized}
use Rattle.mod_ref.specs.Columns.{AreSpread}
use Rattle.mod_ref.proofs.spread.spread_all.Given as goal

abbrev pub invariant-loop-location : goal.invariant-loop-location
invariant-loop-location l =
    AreSpread l.p l.fn.closure.rules l.own l.location l.found × IsSized (length l.own.sets) l.own.bits l.found × (l.closure ≡ l.fn.closure) × (length l.marks ≡ length l.own.sets) × (l.location-end ≡ length l.l)
