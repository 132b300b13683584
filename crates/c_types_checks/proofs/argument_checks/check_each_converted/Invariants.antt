use Rattle.std.proofs.Common.{◌≡◌, drop, map}
use Rattle.c_types_base.specs.Tables.{scope_of}
use Rattle.c_types_checks.specs.CallChecks.{check_each, fits_conversion}
use Rattle.c_types_checks.specs.Conversions.{conversion_of}
use Rattle.c_types_checks.proofs.argument_checks.check_each_converted.Given as goal

abbrev pub invariant-loop-i : goal.invariant-loop-i
invariant-loop-i l =
    check_each l.tables.raw.now (scope_of l.tables) 19 fits_conversion (map conversion_of l.conversions) l.args
    ≡ check_each l.tables.raw.now (scope_of l.tables) 19 fits_conversion (map conversion_of (drop l.i l.conversions)) (drop l.i l.args)
