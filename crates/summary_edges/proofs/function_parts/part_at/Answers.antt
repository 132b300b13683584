use Rattle.std.proofs.Common.{◌≡◌, ◌^◌, ◌<◌, ◌≤◌, List, length, Some, slice_get, sym, subst, arith}
use Rattle.std.specs.List.Sorted.{IsNonDecreasingBy}
use Rattle.dep_model.specs.declared.graph.OutRow.{OutRow}
use Rattle.dep_model.specs.declared.vertex.Vertex.{Vertex}
use Rattle.matched_paths.specs.VertexRanges.{AreApartAt, IsWholeFunction}
use Rattle.summary_edges.proofs.PartLaws.{few_rows, ascending_rows}
use Rattle.summary_edges.proofs.function_parts.part_at.Goals as goal

pub range_at-range-requires-clause-apart : goal.range_at-range-requires-clause-apart
range_at-range-requires-clause-apart c = subst (λ (vs : List Vertex). AreApartAt vs c.args.first) (sym c.as_slice.ensures) c.requires.apart

pub rows_before-first_row-requires-clause-few : goal.rows_before-first_row-requires-clause-few
rows_before-first_row-requires-clause-few c =
    subst (λ (os : List OutRow). length os < 2 ^ 32) (sym c.as_slice-2.ensures) (let few = few_rows c.args.g.now c.requires.shaped.rows_are in let most = c.requires.shaped.few_vertices in omega (arith, few, most))

pub rows_before-first_row-requires-clause-ascending : goal.rows_before-first_row-requires-clause-ascending
rows_before-first_row-requires-clause-ascending c = subst (λ (os : List OutRow). IsNonDecreasingBy (λ (r : OutRow). r.vertex) os) (sym c.as_slice-2.ensures) (ascending_rows c.args.g.now c.requires.shaped.rows_are)

pub rows_before-last_row-requires-clause-few : goal.rows_before-last_row-requires-clause-few
rows_before-last_row-requires-clause-few c =
    subst (λ (os : List OutRow). length os < 2 ^ 32) (sym c.as_slice-3.ensures) (let few = few_rows c.args.g.now c.requires.shaped.rows_are in let most = c.requires.shaped.few_vertices in omega (arith, few, most))

pub rows_before-last_row-requires-clause-ascending : goal.rows_before-last_row-requires-clause-ascending
rows_before-last_row-requires-clause-ascending c = subst (λ (os : List OutRow). IsNonDecreasingBy (λ (r : OutRow). r.vertex) os) (sym c.as_slice-3.ensures) (ascending_rows c.args.g.now c.requires.shaped.rows_are)

pub returns-clause-is : goal.returns-clause-is
returns-clause-is c =
    let g = c.args.g.now in
    let range = c.range_at-range.result in
    let e = c.range_at-range.ensures in
    record {
      whole = subst (λ (vs : List Vertex). IsWholeFunction vs range) c.as_slice.ensures e.whole;
      order = (let begins = e.first in let more = e.more in omega (arith, begins, more));
      inside = subst (λ (vs : List Vertex). range.last ≤ length vs) c.as_slice.ensures e.inside;
      rows_first = subst (λ (os : List OutRow). c.rows_before-first_row.result ≤ length os) c.as_slice-2.ensures c.rows_before-first_row.ensures.inside;
      rows_inside = subst (λ (os : List OutRow). c.rows_before-last_row.result ≤ length os) c.as_slice-3.ensures c.rows_before-last_row.ensures.inside;
      rows_from = λ k r at. c.rows_before-first_row.ensures.before k r (subst (λ (os : List OutRow). slice_get os k ≡ Some r) (sym c.as_slice-2.ensures) at);
      rows_to = λ k r at. c.rows_before-last_row.ensures.before k r (subst (λ (os : List OutRow). slice_get os k ≡ Some r) (sym c.as_slice-3.ensures) at);
      words_from = c.word_of-first_word.ensures;
      words_to = c.word_of-last_word.ensures;
    }

pub returns-clause-apart : goal.returns-clause-apart
returns-clause-apart c = subst (λ (vs : List Vertex). AreApartAt vs c.range_at-range.result.last) c.as_slice.ensures c.range_at-range.ensures.apart
