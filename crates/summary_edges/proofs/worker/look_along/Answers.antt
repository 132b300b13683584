use Rattle.std.proofs.Common.{◌≡◌, ◌^◌, ◌<◌, ◌≤◌, List, length, Some, slice_get, sym, subst, arith}
use Rattle.std.specs.List.Sorted.{IsNonDecreasingBy}
use Rattle.crew.specs.Seats.{view}
use Rattle.dep_model.specs.declared.graph.OutRow.{OutRow}
use Rattle.matched_paths.proofs.ReachLaws.{edge_below}
use Rattle.summary_edges.specs.Workers.{IsReadAlong}
use Rattle.summary_edges.proofs.PartLaws.{few_rows, ascending_rows}
use Rattle.summary_edges.proofs.WorkerLaws.{looked_as, row_words, row_inside}
use Rattle.summary_edges.proofs.worker.look_along.Goals as goal

pub rows_before-low-requires-clause-few : goal.rows_before-low-requires-clause-few
rows_before-low-requires-clause-few c =
    subst (λ (os : List OutRow). length os < 2 ^ 32) (sym c.as_slice.ensures) (let few = few_rows c.args.t.now.graph.now c.requires.shaped.rows_are in let most = c.requires.shaped.few_vertices in omega (arith, few, most))

pub rows_before-low-requires-clause-ascending : goal.rows_before-low-requires-clause-ascending
rows_before-low-requires-clause-ascending c = subst (λ (os : List OutRow). IsNonDecreasingBy (λ (r : OutRow). r.vertex) os) (sym c.as_slice.ensures) (ascending_rows c.args.t.now.graph.now c.requires.shaped.rows_are)

pub overflow_add-edge : goal.overflow_add-edge
overflow_add-edge c = let below = (edge_below c.args.t.now.graph.now c.requires.shaped c.args.edge c.requires.edge).0 in let most = c.requires.shaped.few_vertices in omega (arith, below, most)

pub rows_before-high-requires-clause-few : goal.rows_before-high-requires-clause-few
rows_before-high-requires-clause-few c =
    subst (λ (os : List OutRow). length os < 2 ^ 32) (sym c.as_slice-in-Out.ensures) (let few = few_rows c.args.t.now.graph.now c.requires.shaped.rows_are in let most = c.requires.shaped.few_vertices in omega (arith, few, most))

pub rows_before-high-requires-clause-ascending : goal.rows_before-high-requires-clause-ascending
rows_before-high-requires-clause-ascending c = subst (λ (os : List OutRow). IsNonDecreasingBy (λ (r : OutRow). r.vertex) os) (sym c.as_slice-in-Out.ensures) (ascending_rows c.args.t.now.graph.now c.requires.shaped.rows_are)

pub look_at-requires-clause-inside : goal.look_at-requires-clause-inside
look_at-requires-clause-inside c = let is = c.word_of-last.ensures in let inside = row_inside c.args.t.now.graph.now c.requires.shaped.rows_are c.rows_before-high.result in omega (arith, is, inside)

pub returns-in-Out-clause-looked : goal.returns-in-Out-clause-looked
returns-in-Out-clause-looked c =
    let g = c.args.t.now.graph.now in
    let low = c.rows_before-low.result in
    let high = c.rows_before-high.result in
    let first = c.word_of-first.result in
    let last = c.word_of-last.result in
    looked_as g (λ w. (first ≤ w) × (w < last)) (IsReadAlong g c.args.edge) c.args.known.now c.look_at.new.known (view c.args.seat.now) (view c.look_at.new.seat)
    (λ w h.
    let q = row_words g c.requires.shaped.rows_are c.args.edge.from w low high
    (λ k r at. (
      (c.rows_before-low.ensures.before k r (subst (λ (os : List OutRow). slice_get os k ≡ Some r) (sym c.as_slice.ensures) at)).0,
      (c.rows_before-high.ensures.before k r (subst (λ (os : List OutRow). slice_get os k ≡ Some r) (sym c.as_slice-in-Out.ensures) at)).1,
    )) h.word in
    let one = c.word_of-first.ensures in
    let two = c.word_of-last.ensures in
    let a = q.0 in let z = q.1 in
    (omega (arith, one, a), omega (arith, two, z)))
    c.look_at.ensures.looked
