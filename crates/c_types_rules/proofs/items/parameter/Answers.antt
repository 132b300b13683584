use Rattle.std.proofs.Common.{ap, sym, ◌∙◌, Some, Ok, Err, refl}
use Rattle.c_tree.specs.declared.raw.program.RawInit.TheVariants as init
use Rattle.c_language.specs.Phrases as phrases
use Rattle.c_language.specs.Scopes.{parameter_of}
use Rattle.c_types_base.specs.Stretches.{of_parameter}
use Rattle.c_types_rules.specs.Walks.{Walks}
use Rattle.c_types_rules.proofs.DeclaredSteps.{declaration_stops, declared_typed, declaration_walks, parameter_walks}
use Rattle.c_types_rules.proofs.WalkSteps.{passes_on}
use Rattle.c_types_rules.proofs.items.parameter.Goals as goal

pub returns-in_err-on_line-in-Some : goal.returns-in_err-on_line-in-Some
returns-in_err-on_line-in-Some c =
    passes_on (Walks (of_parameter c.args.parameter.now) c.args.tables.now c.args.tables.now) c.in_err-on_line-in-Some.field-0.0 c.from_residual.result c.from_residual.ensures.1
    (parameter_walks c.args.parameter.now c.bytes-name.result.now (c.in-Some.is ∙ ap Some (sym c.bytes-name.ensures)) c.args.tables.now c.args.tables.now (Err c.in_err-on_line-in-Some.field-0.0)
    (declaration_stops c.args.tables.now c.requires c.args.parameter.now.line phrases.InHead (parameter_of c.args.parameter.now c.bytes-name.result.now) init.None c.check_declared_parameter.result c.check_declared_parameter.ensures
    c.args.tables.now c.in_err-on_line-in-Some.field-0.0 c.in_err-on_line-in-Some.ensures))

pub declare-requires-clause-typed : goal.declare-requires-clause-typed
declare-requires-clause-typed c =
    declared_typed c.args.tables.now c.requires c.args.parameter.now.line phrases.InHead (parameter_of c.args.parameter.now c.bytes-name.result.now) init.None c.check_declared_parameter.result c.check_declared_parameter.ensures
    (sym c.in_ok-on_line-in-Some.ensures) 0 refl

pub returns-in_ok-declare-in-Some : goal.returns-in_ok-declare-in-Some
returns-in_ok-declare-in-Some c =
    parameter_walks c.args.parameter.now c.bytes-name.result.now (c.in-Some.is ∙ ap Some (sym c.bytes-name.ensures)) c.args.tables.now c.declare.new.tables (Ok tt)
    (declaration_walks c.args.tables.now c.requires c.args.parameter.now.line phrases.InHead (parameter_of c.args.parameter.now c.bytes-name.result.now) init.None c.check_declared_parameter.result c.check_declared_parameter.ensures
    (sym c.in_ok-on_line-in-Some.ensures) c.declare.new.tables c.bytes-name.result.now 0 refl refl c.in_ok-declare-in-Some.ensures (Ok tt) tt)
