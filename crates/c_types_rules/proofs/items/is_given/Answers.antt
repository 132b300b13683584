use Rattle.std.proofs.Common.{rules, ◌≡◌, is_some}
use Rattle.c_types_base.specs.Numbering.{number_in}
use Rattle.c_types_rules.proofs.ItemSteps.{given_is}
use Rattle.c_types_rules.proofs.items.is_given.Goals as goal

pub returns-in-Some : goal.returns-in-Some
returns-in-Some c = λ before numbers.
    let found : c.is_some.result ≡ is_some (number_in c.args.names.now c.in-Some.name) = search rules in
    given_is before c.args.parameter.now c.args.names.now c.in-Some.name c.is_some.result numbers c.in-Some.is found
