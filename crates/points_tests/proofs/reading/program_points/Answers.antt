use Rattle.dep_model.proofs.StructOrder.{well_formed_in_order}
use Rattle.points_tests.proofs.reading.program_points.Goals as goal

pub of-requires-clause-ordered : goal.of-requires-clause-ordered
of-requires-clause-ordered g c = well_formed_in_order c.args.p.now c.requires
