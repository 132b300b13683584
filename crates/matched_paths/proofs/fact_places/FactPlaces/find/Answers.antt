use Rattle.std.proofs.Common.{◌∙◌, ap, subst, length}
use Rattle.matched_paths.specs.Places.{AreRowWords, AreFormalNumbers}
use Rattle.matched_paths.proofs.RowLaws.{rows_inside, rows_apart}
use Rattle.matched_paths.proofs.PlaceLaws.{places_are}
use Rattle.matched_paths.proofs.fact_places.FactPlaces.find.Goals as goal

pub row_words-requires-clause-inside : goal.row_words-requires-clause-inside
row_words-requires-clause-inside c = rw (c.as_slice-2.ensures, c.requires.rows_are.outs_are, c.len.ensures) (rows_inside c.args.g.now.vertices)

pub row_words-requires-clause-apart : goal.row_words-requires-clause-apart
row_words-requires-clause-apart c = rw (c.as_slice-2.ensures, c.requires.rows_are.outs_are) (rows_apart c.args.g.now.vertices)

pub returns : goal.returns
returns c =
    places_are c.args.g.now (record { numbers = c.in_ok-numbers.numbers.items; rows = c.in_ok-rows.rows.items }) c.requires.rows_are.outs_are
    (subst (λ vs. AreFormalNumbers vs c.in_ok-numbers.numbers.items) c.as_slice.ensures c.in_ok-numbers.ensures.exact)
    (subst (λ os. AreRowWords os c.in_ok-rows.rows.items) c.as_slice-2.ensures c.in_ok-rows.ensures.exact)
    (c.in_ok-numbers.ensures.long ∙ ap length c.as_slice.ensures) (c.in_ok-rows.ensures.long ∙ c.len.ensures)
