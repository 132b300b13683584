use Rattle.c_types_rules.proofs.ItemSteps.{gives_none, gives_name}
use Rattle.c_types_rules.proofs.items.give_name.Goals as goal

pub returns-in-None : goal.returns-in-None
returns-in-None c = λ before numbers. gives_none before c.args.parameter.now c.args.names.now c.in-None.is numbers

pub returns-in_ok-add-in-Some : goal.returns-in_ok-add-in-Some
returns-in_ok-add-in-Some c = λ before numbers.
    gives_name before c.args.parameter.now c.args.names.now c.add.new.self c.in-Some.name c.bytes.result.now c.in-Some.is c.bytes.ensures c.in_ok-add-in-Some.ensures numbers
