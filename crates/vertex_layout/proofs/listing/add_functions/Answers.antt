use Rattle.std.proofs.Common.{◌+◌, length}
use Rattle.dep_model.specs.VertexOrder.{function_kinds, vertices_from}
use Rattle.vertex_layout.specs.Listing.{vertices_in}
use Rattle.vertex_layout.specs.Seen.{effects_in}
use Rattle.vertex_layout.proofs.Left.{left_above, told_on}
use Rattle.vertex_layout.proofs.ListingTurns.{functions_left, functions_turn}
use Rattle.vertex_layout.proofs.listing.add_functions.Goals as goal

pub returns-in_err-add_function-clause-above : goal.returns-in_err-add_function-clause-above
returns-in_err-add_function-clause-above c =
    let l = c.loop-f in
    let p = c.args.seen.now.program in
    let e = effects_in c.args.seen.now in
    let gs = c.args.functions.now in
    let all = vertices_from p e 0 gs in
    told_on (length c.args.list.now + length all) c.in_err-add_function.field-0.0 c.from_residual.result c.from_residual.ensures.1
    (left_above c.args.list.now all (vertices_in l.f (function_kinds p e l.f)) (functions_left p e gs (l.f + 1)) (functions_left p e gs l.f) l.list c.in_err-add_function.field-0.0
    (functions_turn p e gs l.f c.index-functions-f.result c.loop-f-test.true c.index-functions-f.is) l.invariant c.in_err-add_function.ensures.above)
