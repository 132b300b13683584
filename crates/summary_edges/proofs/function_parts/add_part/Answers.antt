use Rattle.std.proofs.Common.{◌≡◌, ◌++◌, ◌∷◌, [], List, Some, None, length, get_or, ap, ◌∙◌, sym, arith, rules}
use Rattle.std.specs.Vec.{vec_len}
use Rattle.std.proofs.lemmas.Option.{slice_get-get_or}
use Rattle.dep_model.specs.declared.vertex.Vertex.{Vertex}
use Rattle.dep_model.specs.declared.vertex.VertexKind.TheVariants.{Entry}
use Rattle.dep_model.specs.Facts.{IsIn}
use Rattle.summary_edges.proofs.PartLaws.{part_added}
use Rattle.summary_edges.proofs.function_parts.add_part.Goals as goal

abbrev none : Vertex
none = record { function = 0; kind = Entry }

pub returns : goal.returns
returns c =
    let old = c.args.parts.now in
    let now = c.loop-parts.parts in
    let h = c.loop-parts.invariant in
    let most = h.to in
    let ended = c.loop-parts-test.false in
    let counted = c.len.ensures in
    let long : length now.of_vertex.items ≡ c.args.part.range.last = omega (arith, most, ended, counted) in
    let size : vec_len old.list ≡ length old.list.items = search rules in
    let place : c.len-place.result ≡ length old.list.items = c.len-place.ensures ∙ size in
    let first = c.args.part.range.first in
    let inside = c.requires.is.inside in
    let order = c.requires.is.order in
    let number : IsIn c.args.g.now.vertices (get_or c.as_slice.result.now first none).function first = record {
      vertex = get_or c.args.g.now.vertices first none;
      at = slice_get-get_or c.args.g.now.vertices first none (omega (arith, inside, order));
      in_function = ap (λ (vs : List Vertex). (get_or vs first none).function) (sym c.as_slice.ensures);
    } in
    part_added c.args.g.now old (record { list = c.push-2.new.self; of_vertex = now.of_vertex; of_number = c.note_place.new.places }) c.args.part c.requires.before c.requires.is
    (c.in_ok-push-2.ensures.items ∙ ap (λ l. l.items ++ c.args.part ∷ []) h.list) long h.kept (λ v from to. h.filled v from (omega (arith, to, long)))
    (get_or c.as_slice.result.now first none).function number (c.in_ok-note_place.ensures.here ∙ ap Some place)
    (λ f other. c.in_ok-note_place.ensures.others f other ∙ ap (λ n. get_or n.items f None) h.numbers)
