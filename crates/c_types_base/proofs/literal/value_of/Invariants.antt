use Rattle.std.proofs.Common.{◌≡◌, drop}
use Rattle.c_language.specs.Constants.{value_from}
use Rattle.c_types_base.proofs.literal.value_of.Given as goal

abbrev pub invariant-loop-d : goal.invariant-loop-d
invariant-loop-d l = value_from l.n 0 l.digits ≡ value_from l.n l.value (drop l.d-index l.digits)
