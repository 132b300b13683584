use Rattle.std.proofs.Common.{ℕ, ◌++◌, ◌<◌, length, drop, get_or, ap, ◌∙◌, arith}
use Rattle.std.proofs.lemmas.Option.{slice_get-get_or}
use Rattle.dep_model.specs.FunctionVertices.{passes, numbers_from}
use Rattle.dep_model.specs.Groups.{is_at, row, rows_from}
use Rattle.dep_model.proofs.RowLemmas.{row_none}
use Rattle.dep_model.proofs.Stretching.{some_vertex, numbers_begin, numbers_more, numbers_end}
use Rattle.dep_model.proofs.groups.StatementVertices.find.Goals as goal

pub loop-number-init : goal.loop-number-init
loop-number-init c = λ (i : ℕ).
    let first = c.stretch_of-stretch.result.first in
    ap (λ found. found ++ numbers_from (passes (is_at c.args.actuals i) c.args.function) first (drop first c.args.vertices.now)) (row_none c.least_statement-first.result c.new-rows.result c.new-rows.ensures.items i)
    ∙ numbers_begin c.args.vertices.now c.args.function c.stretch_of-stretch.result c.stretch_of-stretch.ensures (is_at c.args.actuals i)

pub add_vertex-requires : goal.add_vertex-requires
add_vertex-requires c =
    let vs = c.args.vertices.now in
    let n = c.loop-number.number in
    let room = c.stretch_of-stretch.ensures.inside in
    let high = c.loop-number-test.true in
    let low : n < length vs = omega (arith, room, high) in
    record { has_row = λ i is. c.least_statement-first.ensures n (get_or vs n some_vertex) i (c.loop-number.auto.number, high) (slice_get-get_or vs n some_vertex low) is }

pub loop-number-preserved : goal.loop-number-preserved
loop-number-preserved c = λ (i : ℕ).
    let first = c.least_statement-first.result in
    numbers_more c.args.vertices.now c.args.function c.stretch_of-stretch.result c.stretch_of-stretch.ensures (is_at c.args.actuals i) c.loop-number.number (row (rows_from first c.loop-number.rows) i) (row (rows_from first c.add_vertex.new.rows) i)
    (c.loop-number.auto.number, c.loop-number-test.true) (c.loop-number.invariant i) (c.in_ok-add_vertex.ensures i)

pub returns : goal.returns
returns c = λ (i : ℕ).
    numbers_end c.args.vertices.now c.args.function c.stretch_of-stretch.result c.stretch_of-stretch.ensures (is_at c.args.actuals i) (row (rows_from c.least_statement-first.result c.loop-number.rows) i) c.loop-number.number c.loop-number-test.false (c.loop-number.invariant i)
