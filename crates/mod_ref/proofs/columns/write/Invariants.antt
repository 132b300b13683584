use Rattle.std.proofs.Common.{◌≡◌, length}
use Rattle.mod_ref.proofs.ColumnLemmas.{IsWritten}
use Rattle.mod_ref.proofs.columns.write.Given as goal

abbrev pub invariant-loop-f : goal.invariant-loop-f
invariant-loop-f l = IsWritten l.marks l.location l.f l.fn.found l.found × (l.f-end ≡ length l.marks)
