use Rattle.std.proofs.Common.{◌≡◌, ◌<◌, ℕ, List, length, get_or, Some, slice_get, sym, ap, ◌∙◌, arith}
use Rattle.std.proofs.lemmas.List.Elements.{All-get_or}
use Rattle.std.proofs.lemmas.Option.{slice_get-get_or}
use Rattle.dep_model.specs.declared.vertex.Vertex.{Vertex}
use Rattle.summary_edges.specs.Agendas.{number_at}
use Rattle.summary_edges.proofs.AgendaLaws.{number_read, numbers_more}
use Rattle.summary_edges.proofs.agenda.numbers_of.Goals as goal

pub bounds-as_slice-part : goal.bounds-as_slice-part
bounds-as_slice-part c =
    let list = c.args.parts.now.list.items in
    let place = get_or c.args.places.now c.loop-place.place-index 0 in
    let part = c.index-part.result.now in
    let low : place < length list = All-get_or (λ p. p < length list) c.args.places.now c.loop-place.place-index 0 c.loop-place-test.true c.requires.places in
    let at : slice_get list place ≡ Some part = slice_get-get_or list place part low ∙ ap Some (sym c.index-part.ensures) in
    let is = c.requires.parts.each place part at in
    let order = is.order in
    let inside = is.inside in
    let long = ap (λ (vs : List Vertex). length vs) c.as_slice.ensures in
    omega (arith, order, inside, long)

pub loop-place-preserved : goal.loop-place-preserved
loop-place-preserved c =
    let g = c.args.g.now in
    let parts = c.args.parts.now in
    let list = parts.list.items in
    let places = c.args.places.now in
    let n = c.loop-place.place-index in
    let place = get_or places n 0 in
    let part = c.index-part.result.now in
    let low : place < length list = All-get_or (λ p. p < length list) places n 0 c.loop-place-test.true c.requires.places in
    let at : slice_get list place ≡ Some part = slice_get-get_or list place part low ∙ ap Some (sym c.index-part.ensures) in
    let is = c.requires.parts.each place part at in
    let order = is.order in
    let inside = is.inside in
    let read = number_read g parts place part c.as_slice.result.now _ at c.as_slice.ensures (omega (arith, order, inside)) in
    ◌∙◌ {A = List ℕ} c.in_ok-push.ensures.items (numbers_more (number_at g parts) places c.loop-place.numbers.items n _ c.loop-place-test.true c.loop-place.invariant read)
