use Rattle.numbered_texts.proofs.NumbersButLines.{statements_numbered}
use Rattle.slice_engine.proofs.GraphLaws.{well_listed, has_skeleton, above_vertices, is_within}
use Rattle.slice_engine.proofs.graph.graph_of.Goals as goal

pub find-requires-clause-once : goal.find-requires-clause-once
find-requires-clause-once c = well_listed c.args.p.now c.requires.well_formed

pub find-requires-clause-points_are : goal.find-requires-clause-points_are
find-requires-clause-points_are c = c.in_ok-points.ensures.exact.sized

pub lay_out-requires-clause-once : goal.lay_out-requires-clause-once
lay_out-requires-clause-once c = well_listed c.args.p.now c.requires.well_formed

pub lay_out-requires-clause-numbered : goal.lay_out-requires-clause-numbered
lay_out-requires-clause-numbered c = statements_numbered c.args.p.now c.requires.well_formed

pub lay_out-requires-clause-points_are : goal.lay_out-requires-clause-points_are
lay_out-requires-clause-points_are c = c.in_ok-points.ensures.exact.sized

pub lay_out-requires-clause-effects_are : goal.lay_out-requires-clause-effects_are
lay_out-requires-clause-effects_are c = c.in_ok-effects.ensures.exact.sized

pub returns-in_err-skeleton-clause-above : goal.returns-in_err-skeleton-clause-above
returns-in_err-skeleton-clause-above c =
    above_vertices c.args.p.now c.in_ok-points.points c.in_ok-effects.effects c.requires.well_formed c.in_ok-points.ensures.exact c.in_ok-effects.ensures.exact c.from_residual-in_err-skeleton.result c.in_err-skeleton.field-0.0 c.from_residual-in_err-skeleton.ensures.1 c.requires.few c.in_err-skeleton.ensures.above

pub find-requires-2 : goal.find-requires-2
find-requires-2 c =
    has_skeleton c.args.p.now c.in_ok-points.points c.in_ok-effects.effects c.requires.well_formed c.in_ok-points.ensures.exact c.in_ok-effects.ensures.exact c.in_ok-skeleton.skeleton c.requires.few c.in_ok-skeleton.ensures.skeleton c.in_ok-skeleton.ensures.within

pub returns-clause-within : goal.returns-clause-within
returns-clause-within c =
    is_within c.args.p.now c.in_ok-skeleton.skeleton c.in_ok-graph.graph (has_skeleton c.args.p.now c.in_ok-points.points c.in_ok-effects.effects c.requires.well_formed c.in_ok-points.ensures.exact c.in_ok-effects.ensures.exact c.in_ok-skeleton.skeleton c.requires.few c.in_ok-skeleton.ensures.skeleton c.in_ok-skeleton.ensures.within) c.in_ok-graph.ensures
