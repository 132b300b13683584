use Rattle.std.proofs.Common.{arith}
use Rattle.dep_model.proofs.StructOrder.{well_formed_in_order}
use Rattle.pointer_tests.proofs.typed_rows.locations_of.Goals as goal

pub of-requires-clause-ordered : goal.of-requires-clause-ordered
of-requires-clause-ordered g c = well_formed_in_order c.args.p.now c.requires.well_formed

pub of-requires-clause-few : goal.of-requires-clause-few
of-requires-clause-few g c = let few = c.requires.few in omega (arith, few)
