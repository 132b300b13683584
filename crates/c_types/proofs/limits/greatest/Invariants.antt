use Rattle.std.proofs.Common.{◌≡◌, take}
use Rattle.c_types.proofs.limits.greatest.Given as goal
use Rattle.c_language.specs.Lists.{greatest}

abbrev pub invariant-loop-n : goal.invariant-loop-n
invariant-loop-n l = l.best ≡ greatest (take l.n-index l.all)
