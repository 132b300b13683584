use Rattle.dep_model.proofs.StructOrder.{well_formed_in_order}
use Rattle.effect_tests.proofs.WellFormed.{well_listed}
use Rattle.effect_tests.proofs.expression_tests.program_has.Goals as goal

pub of-requires-clause-ordered : goal.of-requires-clause-ordered
of-requires-clause-ordered g c = well_formed_in_order c.args.p.now c.requires

pub new-requires-clause-once : goal.new-requires-clause-once
new-requires-clause-once g c = well_listed c.args.p.now c.requires
