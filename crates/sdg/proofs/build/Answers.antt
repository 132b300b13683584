use Rattle.std.proofs.Common.{sym, ap, ◌∙◌, subst}
use Rattle.dep_model.specs.EdgeOrder.{AreAscendingEdges}
use Rattle.dep_model.specs.Graphs.{out_rows, fact_words}
use Rattle.sdg.proofs.BuildLaws.{same_joined, is_graph}
use Rattle.sdg.proofs.build.Goals as goal

pub returns : goal.returns
returns c = λ a skeleton graphs.
    let vs = c.args.s.vertices in
    let sites = c.in_ok-sites.sites.items in
    let parts = c.args.parts.items in
    let vertices = c.as_slice-vertices.ensures in
    let joined = same_joined c.in_ok-edges.edges.items c.from_vec.result c.as_slice-2.result.now parts c.as_slice-vertices.result.now vs c.as_slice.result.now sites
    (sym c.from_vec.ensures) c.as_slice-2.ensures.value vertices c.as_slice.ensures.value c.in_ok-edges.ensures.exact in
    is_graph c.args.p.now a parts graphs sites c.in_ok-sites.ensures vs c.from_vec.result c.from_vec-2.result c.in_ok-rows.rows.words skeleton.vertices_are joined
    (subst AreAscendingEdges (sym c.from_vec.ensures) c.in_ok-edges.ensures.ascending)
    (c.from_vec-2.ensures ∙ c.in_ok-rows.ensures.outs ∙ ap out_rows vertices)
    (c.in_ok-rows.ensures.words ∙ ap fact_words vertices)
