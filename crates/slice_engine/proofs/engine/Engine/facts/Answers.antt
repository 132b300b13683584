use Rattle.std.proofs.Common.{subst}
use Rattle.slice_engine.specs.Engine.{AreFactsOf}
use Rattle.slice_engine.proofs.ProgramGraphs.{facts_of_each}
use Rattle.slice_engine.proofs.engine.Engine.facts.Goals as goal

pub returns : goal.returns
returns c =
    let ready = c.self.invariant.prepared in
    subst (λ p. AreFactsOf p c.self.inside.facts) c.self.view_is (facts_of_each c.self.inside.program c.self.inside.graph c.self.inside.facts ready.is_graph ready.facts_are)
