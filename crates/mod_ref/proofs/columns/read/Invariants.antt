use Rattle.std.proofs.Common.{◌≡◌, length}
use Rattle.mod_ref.proofs.ColumnLemmas.{IsRead}
use Rattle.mod_ref.proofs.columns.read.Given as goal

abbrev pub invariant-loop-f : goal.invariant-loop-f
invariant-loop-f l = IsRead l.own l.location l.f l.marks × (l.f-end ≡ length l.own.sets)
