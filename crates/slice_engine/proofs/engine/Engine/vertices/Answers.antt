use Rattle.std.proofs.Common.{sym, subst, ◌∙◌}
use Rattle.slice_engine.specs.Engine.{AreVerticesOf}
use Rattle.slice_engine.proofs.ProgramGraphs.{vertices_in_each}
use Rattle.slice_engine.proofs.engine.Engine.vertices.Goals as goal

pub vertices_at-requires-clause-starts : goal.vertices_at-requires-clause-starts
vertices_at-requires-clause-starts c = c.deref.ensures.value ∙ c.self.invariant.prepared.starts_are

pub vertices_at-requires-clause-few : goal.vertices_at-requires-clause-few
vertices_at-requires-clause-few c = c.self.invariant.prepared.within.few_vertices

pub returns : goal.returns
returns c =
    let found = c.in_ok-found.found.items in
    subst (λ p. AreVerticesOf p c.args.c.line found) c.self.view_is
    (vertices_in_each c.self.inside.program c.self.inside.graph c.args.c.line found c.self.invariant.prepared.is_graph c.in_ok-found.ensures)
