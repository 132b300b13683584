use Rattle.std.proofs.Common.{rules, arith}
use Rattle.c_tree.specs.declared.raw.program.RawParam.{RawParam}
use Rattle.c_language.specs.DeclaredTypes.{written_type}
use Rattle.c_types_base.specs.Tables.{scope_of}
use Rattle.c_types_checks.specs.CallChecks.{fits_parameter}
use Rattle.c_types_checks.proofs.ArgumentLemmas.{arguments_stop, arguments_go}
use Rattle.c_types_checks.proofs.argument_checks.check_arguments.Goals as goal

pub returns-in_err-check_argument : goal.returns-in_err-check_argument
returns-in_err-check_argument c =
    let raw = c.args.tables.now.raw.now in
    let stop = arguments_stop raw (scope_of c.args.tables.now) 16 fits_parameter (λ (p : RawParam). written_type raw p.shape) c.args.params.now c.args.args.now c.loop-i.i c.loop-i.invariant
    c.index-params-i.result c.index-args-i.result c.loop-i-test.true (omega (arith, c.loop-i-test.true, c.requires.count)) c.index-params-i.is c.index-args-i.is
    c.in_err-check_argument.field-0.0 c.in_err-check_argument.ensures in
    search (rules, stop)

pub loop-i-preserved : goal.loop-i-preserved
loop-i-preserved c =
    let raw = c.args.tables.now.raw.now in
    arguments_go raw (scope_of c.args.tables.now) 16 fits_parameter (λ (p : RawParam). written_type raw p.shape) c.args.params.now c.args.args.now c.loop-i.i c.loop-i.invariant
    c.index-params-i.result c.index-args-i.result c.loop-i-test.true (omega (arith, c.loop-i-test.true, c.requires.count)) c.index-params-i.is c.index-args-i.is
    c.in_ok-check_argument.ensures
