use Rattle.c_types_checks.proofs.targets.target_type.Goals as goal

pub returns-in-Declared : goal.returns-in-Declared
returns-in-Declared c = rw c.in-Declared.is c.type_of_declared.ensures
