use Rattle.std.proofs.Common.{false, length, get_or, ap, ◌∙◌, arith}
use Rattle.std.proofs.lemmas.List.{length-replicate}
use Rattle.std.proofs.lemmas.Option.{slice_get-get_or, slice_get_within}
use Rattle.summary_edges.specs.declared.function_parts.FunctionPart.{FunctionPart}
use Rattle.summary_edges.proofs.PartLaws.{rows_order}
use Rattle.summary_edges.proofs.TableRoom.{larger_taken, has_room}
use Rattle.summary_edges.proofs.exit_rows.ExitRows.new.Goals as goal

abbrev none : FunctionPart
none = record { range = record { first = 0; last = 0 }; first_row = 0; last_row = 0; first_word = 0; last_word = 0 }

pub overflow_sub-part : goal.overflow_sub-part
overflow_sub-part c =
    let ps = c.args.parts.now in
    let k = c.loop-part.part-index in
    let order = (c.requires.parts k (get_or ps k none) (slice_get-get_or ps k none c.loop-part-test.true)).order in
    omega (arith, order)

pub overflow_sub-part-in-loop-part : goal.overflow_sub-part-in-loop-part
overflow_sub-part-in-loop-part c =
    let ps = c.args.parts.now in
    let k = c.loop-part.part-index in
    rows_order c.args.g.now (get_or ps k none) (c.requires.parts k (get_or ps k none) (slice_get-get_or ps k none c.loop-part-test.true))

pub loop-part-preserved : goal.loop-part-preserved
loop-part-preserved c =
    let ps = c.args.parts.now in
    let k = c.loop-part.part-index in
    larger_taken ps k c.loop-part.vertices c.loop-part.exits c.max-vertices.result c.max-exits.result (get_or ps k none) (slice_get-get_or ps k none c.loop-part-test.true)
    c.max-vertices.ensures c.max-exits.ensures c.loop-part.invariant

pub returns : goal.returns
returns c = λ i p at.
    let low = slice_get_within c.args.parts.now i p at in
    let ended = c.loop-part-test.false in
    let fits = c.loop-part.invariant i p (omega (arith, low, ended)) at in
    has_room p (record { rows = c.in_ok-rows.rows; fresh = c.in_ok-fresh.fresh }) c.loop-part.vertices c.loop-part.exits c.in_ok-rows.ensures.size
    (ap length (c.in_ok-fresh.ensures.items_if_clones_equal (λ y h. h)) ∙ length-replicate c.loop-part.vertices false) fits.0 fits.1
