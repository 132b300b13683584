use Rattle.dep_model.proofs.StructOrder.{well_formed_in_order}
use Rattle.slice_engine.proofs.GraphLaws.{above_locations}
use Rattle.slice_engine.proofs.graph.locations_of.Goals as goal

pub of-requires-clause-ordered : goal.of-requires-clause-ordered
of-requires-clause-ordered c = well_formed_in_order c.args.p.now c.requires

pub returns-in_err-locations-clause-above : goal.returns-in_err-locations-clause-above
returns-in_err-locations-clause-above c = above_locations c.args.p.now c.from_residual.result c.in_err-locations.field-0.0 c.from_residual.ensures.1 c.in_err-locations.ensures.above
