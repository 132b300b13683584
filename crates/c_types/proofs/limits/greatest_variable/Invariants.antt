use Rattle.std.proofs.Common.{◌≡◌, ℕ, List, take}
use Rattle.c_language.specs.Limits.{greatest_variable}
use Rattle.c_types.specs.Limits.{capped, all_capped}
use Rattle.c_types.proofs.limits.greatest_variable.Given as goal

abbrev pub invariant-loop-var : goal.invariant-loop-var
invariant-loop-var l = (counts : List ℕ) → l.structs ≡ all_capped counts → l.best ≡ capped (greatest_variable counts (take l.var-index l.vars))
