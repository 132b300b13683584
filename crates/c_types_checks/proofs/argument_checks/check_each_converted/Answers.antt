use Rattle.std.proofs.Common.{rules, arith, get_or, false}
use Rattle.std.proofs.lemmas.List.{get_or_default}
use Rattle.c_types_base.specs.Tables.{scope_of}
use Rattle.c_types_checks.specs.CallChecks.{fits_conversion}
use Rattle.c_types_checks.specs.Conversions.{conversion_of}
use Rattle.c_types_checks.specs.declared.conversions.Conversion.{Conversion}
use Rattle.c_types_checks.specs.declared.conversions.Conversion.TheVariants.{SignedDecimal}
use Rattle.c_types_checks.proofs.ArgumentLemmas.{arguments_stop, arguments_go}
use Rattle.c_types_checks.proofs.argument_checks.check_each_converted.Goals as goal

pub returns-in_err-check_converted : goal.returns-in_err-check_converted
returns-in_err-check_converted c =
    let list = c.args.conversions.now in
    let first : Conversion = get_or list c.loop-i.i (SignedDecimal false) in
    let stop = arguments_stop c.args.tables.now.raw.now (scope_of c.args.tables.now) 19 fits_conversion conversion_of list c.args.args.now c.loop-i.i c.loop-i.invariant
    first c.index-args-i.result c.loop-i-test.true (omega (arith, c.loop-i-test.true, c.requires.count)) (get_or_default list c.loop-i.i (SignedDecimal false) first c.loop-i-test.true) c.index-args-i.is
    c.in_err-check_converted.field-0.0 c.in_err-check_converted.ensures in
    search (rules, stop)

pub loop-i-preserved : goal.loop-i-preserved
loop-i-preserved c =
    let list = c.args.conversions.now in
    let first : Conversion = get_or list c.loop-i.i (SignedDecimal false) in
    arguments_go c.args.tables.now.raw.now (scope_of c.args.tables.now) 19 fits_conversion conversion_of list c.args.args.now c.loop-i.i c.loop-i.invariant
    first c.index-args-i.result c.loop-i-test.true (omega (arith, c.loop-i-test.true, c.requires.count)) (get_or_default list c.loop-i.i (SignedDecimal false) first c.loop-i-test.true) c.index-args-i.is
    c.in_ok-check_converted.ensures
