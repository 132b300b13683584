use Rattle.std.proofs.Common.{arith}
use Rattle.dep_model.proofs.StructOrder.{well_formed_in_order}
use Rattle.analysis_tests.proofs.Reading.{well_listed}
use Rattle.analysis_tests.proofs.analyses.effects_of.Goals as goal

pub of-requires-clause-ordered : goal.of-requires-clause-ordered
of-requires-clause-ordered c = well_formed_in_order c.args.p.now c.requires.well_formed

pub of-requires-clause-few : goal.of-requires-clause-few
of-requires-clause-few c = let few = c.requires.few_functions in omega (arith, few)

pub find-requires-clause-few : goal.find-requires-clause-few
find-requires-clause-few c = c.requires.few_functions

pub find-requires-clause-once : goal.find-requires-clause-once
find-requires-clause-once c = well_listed c.args.p.now c.requires.well_formed

pub find-requires-clause-points_are : goal.find-requires-clause-points_are
find-requires-clause-points_are c = c.in_ok-points.ensures.exact.sized

pub returns : goal.returns
returns c = c.in_ok-effects.ensures.exact.sized
