use Rattle.std.proofs.Common.{List, length, map, option_map, ap, sym, subst, ◌∙◌, arith}
use Rattle.std.specs.Prelude.{◌==◌}
use Rattle.c_types_base.specs.Tables.{scope_of}
use Rattle.c_types_checks.specs.declared.conversions.Conversion.{Conversion}
use Rattle.c_types_checks.specs.CallChecks.{check_each, fits_conversion}
use Rattle.c_types_checks.specs.Checking.{Decides, unless_broken}
use Rattle.c_types_checks.specs.Conversions.{conversion_of}
use Rattle.c_types_checks.proofs.PieceLemmas.{no_pieces, some_pieces}
use Rattle.c_types_checks.proofs.library_calls.check_bytes.Goals as goal

pub returns-in-None : goal.returns-in-None
returns-in-None c = (no_pieces _ _ (ap (option_map (map conversion_of)) (sym c.in-None.is) ∙ c.in_ok-conversions_of.ensures), omega arith)

pub returns-in-Some : goal.returns-in-Some
returns-in-Some c =
    some_pieces c.args.tables.now.raw.now (scope_of c.args.tables.now) c.args.args.now c.check_conversions.result c.in-Some.conversions _
    (ap (option_map (map conversion_of)) (sym c.in-Some.is) ∙ c.in_ok-conversions_of.ensures)
    (subst (λ (cs : List Conversion). Decides (unless_broken (length c.args.args.now == length cs) 19 (check_each c.args.tables.now.raw.now (scope_of c.args.tables.now) 19 fits_conversion (map conversion_of cs) c.args.args.now)) c.check_conversions.result)
    c.as_slice.ensures c.check_conversions.ensures)
