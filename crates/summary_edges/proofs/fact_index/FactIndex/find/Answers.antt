use Rattle.std.proofs.Common.{List, flat_map, ap, ◌∙◌}
use Rattle.dep_model.specs.declared.vertex.Vertex.{Vertex}
use Rattle.matched_paths.specs.EdgeGroups.{ending, entering, calling}
use Rattle.summary_edges.proofs.fact_index.FactIndex.find.Goals as goal

pub returns : goal.returns
returns c =
    let vs = c.as_slice-vertices.ensures in
    let es = c.as_slice-edges.ensures in
    record {
      shaped = c.requires.shaped;
      places = c.in_ok-places.ensures;
      parts = c.in_ok-parts.ensures;
      ends = λ v. c.in_ok-ends.ensures v ∙ ap (flat_map (ending v)) es;
      entries = λ n. c.in_ok-entries.ensures n ∙ ap (flat_map (entering n)) es;
      calls = λ h. c.in_ok-calls.ensures h ∙ ap (flat_map (calling c.as_slice-vertices.result.now h)) es ∙ ap (λ (xs : List Vertex). flat_map (calling xs h) c.args.g.now.edges) vs;
    }
