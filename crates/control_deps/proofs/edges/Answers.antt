use Rattle.std.proofs.Common.{map, ap, ◌∙◌, subst}
use Rattle.std.specs.Prelude.{Contains, ◌↔◌}
use Rattle.dep_model.specs.declared.skeleton.Pair.{Pair}
use Rattle.dep_model.specs.FunctionVertices.{IsControlIn}
use Rattle.control_deps.specs.ControlEdges.{control_edge}
use Rattle.control_deps.proofs.ControlLaws.{edges_exactly, edges_ascending}
use Rattle.control_deps.proofs.edges.Goals as goal

pub returns-clause-exact : goal.returns-clause-exact
returns-clause-exact c =
    let vertices = c.as_slice.ensures in
    edges_exactly c.args.p.now c.args.s.now.vertices c.args.f c.in_ok-pairs.pairs.items c.in_ok-edges.edges.items
    (λ (x : Pair). subst (λ vs. Contains c.in_ok-pairs.pairs.items x ↔ IsControlIn c.args.p.now vs c.args.f (control_edge x)) vertices (c.in_ok-pairs.ensures.exact x))
    (c.in_ok-edges.ensures ∙ ap (map control_edge) c.as_slice-2.ensures.value)

pub returns-clause-ascending : goal.returns-clause-ascending
returns-clause-ascending c =
    edges_ascending c.in_ok-pairs.pairs.items c.in_ok-edges.edges.items c.in_ok-pairs.ensures.ascending (c.in_ok-edges.ensures ∙ ap (map control_edge) c.as_slice-2.ensures.value)
