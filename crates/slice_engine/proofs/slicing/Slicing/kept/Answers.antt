use Rattle.std.proofs.Common.{subst}
use Rattle.slice_engine.specs.Engine.{IsKept, HasPlaces}
use Rattle.slice_engine.proofs.KeptSets.{kept_is, has_places}
use Rattle.slice_engine.proofs.slicing.Slicing.kept.Goals as goal

pub returns-clause-kept : goal.returns-clause-kept
returns-clause-kept c =
    subst (λ p. IsKept p c.args.c.line c.in_ok-set.set) c.self.view_is (kept_is c.self.inside.program.now c.self.inside.graph.now c.args.c.line c.in_ok-set.set c.self.invariant.passing.prepared.well_formed c.self.invariant.passing.prepared.is_graph c.in_ok-set.ensures.kept)

pub returns-clause-size : goal.returns-clause-size
returns-clause-size c =
    subst (λ p. HasPlaces p c.in_ok-set.set) c.self.view_is (has_places c.self.inside.program.now c.self.inside.graph.now c.in_ok-set.set c.self.invariant.passing.prepared.is_graph c.in_ok-set.ensures.size)
