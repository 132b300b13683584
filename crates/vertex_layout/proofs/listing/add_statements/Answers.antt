use Rattle.std.proofs.Common.{◌+◌, length}
use Rattle.effect_rows.specs.Own.{own_doing}
use Rattle.vertex_layout.specs.Listing.{vertices_in, own_kinds, all_own_kinds}
use Rattle.vertex_layout.specs.OwnStatements.{own_doings}
use Rattle.vertex_layout.proofs.Left.{left_above, told_on}
use Rattle.vertex_layout.proofs.ListingTurns.{statements_left, statements_turn}
use Rattle.vertex_layout.proofs.listing.add_statements.Goals as goal

pub returns-in_err-add_statement-clause-above : goal.returns-in_err-add_statement-clause-above
returns-in_err-add_statement-clause-above c =
    let l = c.loop-statement in
    let f = c.args.f in
    let s = c.args.seen.now in
    let xs = c.args.statements.now in
    let i = l.statement-index in
    let x = c.statement-item.result in
    let all = vertices_in f (all_own_kinds s (own_doings xs)) in
    told_on (length c.args.list.now + length all) c.in_err-add_statement.field-0.0 c.from_residual.result c.from_residual.ensures.1
    (left_above c.args.list.now all (vertices_in f (own_kinds s (own_doing x.now))) (statements_left s f xs (i + 1)) (statements_left s f xs i) l.list c.in_err-add_statement.field-0.0
    (statements_turn s f xs i x c.loop-statement-test.true c.statement-item.is) l.invariant c.in_err-add_statement.ensures.above)
