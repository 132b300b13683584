use Rattle.c_language.specs.CallRules as rules
use Rattle.c_types_base.specs.Tables.{scope_of}
use Rattle.c_types_checks.specs.CallChecks.{check_format}
use Rattle.c_types_checks.proofs.PieceLemmas.{printed}
use Rattle.c_types_checks.proofs.library_calls.check_printed.Goals as goal

pub returns-in-Some : goal.returns-in-Some
returns-in-Some c =
    printed (check_format c.args.tables.now.raw.now (scope_of c.args.tables.now)) (rules.later_args c.args.args.now) c.later_args.result.now (rules.format_in c.args.args.now)
    c.in-Some.text.now c.bytes.result.now c.check_format.result c.in-Some.ensures c.later_args.ensures c.bytes.ensures c.check_format.ensures
