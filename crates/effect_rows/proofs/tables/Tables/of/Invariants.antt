use Rattle.std.proofs.Common.{◌≡◌, length}
use Rattle.effect_rows.specs.Noted.{AreNoted}
use Rattle.effect_rows.proofs.tables.Tables.of.Given as goal

abbrev pub invariant-loop-place : goal.invariant-loop-place
invariant-loop-place l = record {
  end : l.place-end ≡ length l.list;
  noted : AreNoted l.list l.place l.tables;
}
