use Rattle.std.proofs.Common.{sym, ap, ◌∙◌, arith}
use Rattle.c_language.specs.Uses.{is_library_name}
use Rattle.c_types_base.specs.Tables.{scope_of}
use Rattle.c_types_checks.proofs.ParameterLemmas.{taken_named, taken_fresh}
use Rattle.c_types_checks.proofs.head_checks.check_parameter.Goals as goal

pub returns-then-is_named : goal.returns-then-is_named
returns-then-is_named c = λ before told.
    (taken_named c.args.tables.now.raw.now (scope_of c.args.tables.now) before c.args.parameter.now _ c.in-Some.is c.in_ok-check_tags.ensures (sym c.if-is_named.true ∙ told _ c.in-Some.is), omega arith)

pub returns : goal.returns
returns c = λ before told.
    taken_fresh c.args.tables.now.raw.now (scope_of c.args.tables.now) before c.args.parameter.now _ c.in-Some.is c.in_ok-check_tags.ensures (sym c.if-is_named.false ∙ told _ c.in-Some.is)
    c.unless_broken.result c.is_library_name.result (c.is_library_name.ensures ∙ ap is_library_name c.bytes.ensures) c.unless_broken.ensures
