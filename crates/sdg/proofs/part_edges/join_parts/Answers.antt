use Rattle.std.proofs.Common.{◌++◌, Contains, arith, ap, ◌∙◌, subst}
use Rattle.dep_model.specs.declared.edge.Edge.{Edge}
use Rattle.dep_model.specs.declared.graph.FunctionGraph.{FunctionGraph}
use Rattle.sdg.specs.GraphEdges.{IsPartEdge}
use Rattle.sdg.specs.SiteEdges.{Adds}
use Rattle.sdg.proofs.AddLemmas.{OneOf, turns_more, turns_end, adds_list, adds_same}
use Rattle.sdg.proofs.part_edges.join_parts.Goals as goal

pub loop-part-preserved : goal.loop-part-preserved
loop-part-preserved c =
    let l = c.loop-part in
    let xs = c.args.parts.now in
    let x = c.part-item.result in
    let added = c.in_ok-extend_from_slice.ensures.items ∙ ap (λ es. l.edges.items ++ es) c.as_slice.ensures in
    let turn = adds_list l.edges.items c.extend_from_slice.new.self.items x.edges added in
    turns_more (λ (g : FunctionGraph) e. Contains g.edges e) xs c.args.edges.now.items l.part-index x l.edges.items c.extend_from_slice.new.self.items c.loop-part-test.true l.invariant
    (subst (λ (g : FunctionGraph). Adds l.edges.items c.extend_from_slice.new.self.items (Contains g.edges)) c.part-item.is turn)

pub returns : goal.returns
returns c =
    let l = c.loop-part in
    let Is = λ (g : FunctionGraph) (e : Edge). Contains g.edges e in
    let all = turns_end Is c.args.parts.now c.args.edges.now.items l.part-index l.edges.items (omega (arith, c.loop-part-test.false)) l.invariant in
    adds_same c.args.edges.now.items l.edges.items (OneOf Is c.args.parts.now) (IsPartEdge c.args.parts.now) all (λ e. (
      λ o. record { part = o.one; is_part = o.member; has = o.is },
      λ h. record { one = h.part; member = h.is_part; is = h.has },
    ))
