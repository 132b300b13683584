use Rattle.std.proofs.Common.{arith}
use Rattle.dep_model.proofs.StructOrder.{well_formed_in_order}
use Rattle.dep_model.specs.LocationRows.{ArePointsRows}
use Rattle.numbered_texts.proofs.NumbersButLines.{statements_numbered}
use Rattle.analysis_tests.proofs.Reading.{well_listed}
use Rattle.analysis_tests.proofs.Skeletons.{has_skeleton}
use Rattle.analysis_tests.proofs.analyses.skeleton_of.Goals as goal

pub of-requires-clause-ordered : goal.of-requires-clause-ordered
of-requires-clause-ordered c = well_formed_in_order c.args.p.now c.requires.well_formed

pub of-requires-clause-few : goal.of-requires-clause-few
of-requires-clause-few c = let few = c.requires.few_functions in omega (arith, few)

pub find-requires-clause-few : goal.find-requires-clause-few
find-requires-clause-few c = c.requires.few_functions

pub find-requires-clause-once : goal.find-requires-clause-once
find-requires-clause-once c = well_listed c.args.p.now c.requires.well_formed

pub find-requires-clause-points_are : goal.find-requires-clause-points_are
find-requires-clause-points_are c = c.in_ok-points.ensures.exact.sized

pub lay_out-requires-clause-once : goal.lay_out-requires-clause-once
lay_out-requires-clause-once c = well_listed c.args.p.now c.requires.well_formed

pub lay_out-requires-clause-numbered : goal.lay_out-requires-clause-numbered
lay_out-requires-clause-numbered c = statements_numbered c.args.p.now c.requires.well_formed

pub lay_out-requires-clause-few_functions : goal.lay_out-requires-clause-few_functions
lay_out-requires-clause-few_functions c = c.requires.few_functions

pub lay_out-requires-clause-points_are : goal.lay_out-requires-clause-points_are
lay_out-requires-clause-points_are c = c.in_ok-points.ensures.exact.sized

pub lay_out-requires-clause-effects_are : goal.lay_out-requires-clause-effects_are
lay_out-requires-clause-effects_are c = c.in_ok-effects.ensures.exact.sized

pub returns : goal.returns
returns c =
    let rows : ArePointsRows c.args.p.now c.in_ok-points.points = c.in_ok-points.ensures.exact in
    has_skeleton c.args.p.now c.in_ok-points.points c.in_ok-effects.effects c.requires.well_formed rows c.in_ok-effects.ensures.exact c.in_ok-skeleton.skeleton c.in_ok-list.ensures.within c.in_ok-skeleton.ensures.skeleton c.in_ok-skeleton.ensures.within
