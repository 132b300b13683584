use Rattle.std.proofs.Common.{◌≡◌, take}
use Rattle.c_language.specs.Limits.{longest_in_structs}
use Rattle.c_types.proofs.limits.longest_in_structs.Given as goal

abbrev pub invariant-loop-structure : goal.invariant-loop-structure
invariant-loop-structure l = l.best ≡ longest_in_structs (take l.structure-index l.structs)
