use Rattle.std.proofs.Common.{◌≡◌, drop, map}
use Rattle.c_tree.specs.declared.raw.program.RawParam.{RawParam}
use Rattle.c_language.specs.DeclaredTypes.{written_type}
use Rattle.c_types_base.specs.Tables.{scope_of}
use Rattle.c_types_checks.specs.CallChecks.{check_each, fits_parameter}
use Rattle.c_types_checks.proofs.argument_checks.check_arguments.Given as goal

abbrev pub invariant-loop-i : goal.invariant-loop-i
invariant-loop-i l =
    check_each l.tables.raw.now (scope_of l.tables) 16 fits_parameter (map (λ (p : RawParam). written_type l.tables.raw.now p.shape) l.params) l.args
    ≡ check_each l.tables.raw.now (scope_of l.tables) 16 fits_parameter (map (λ (p : RawParam). written_type l.tables.raw.now p.shape) (drop l.i l.params)) (drop l.i l.args)
