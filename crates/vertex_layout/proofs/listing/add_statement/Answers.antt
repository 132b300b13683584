use Rattle.std.proofs.Common.{◌≡◌, ◌+◌, ◌++◌, length, OnOk, subst}
use Rattle.std.specs.Result.{IfErr}
use Rattle.vertex_layout.specs.Listing.{IsAbove, vertices_in}
use Rattle.vertex_layout.proofs.ListingTurns.{call_is}
use Rattle.vertex_layout.proofs.listing.add_statement.Goals as goal

pub returns-in-Invoke-clause-added : goal.returns-in-Invoke-clause-added
returns-in-Invoke-clause-added c =
    let b = c.in-Invoke in
    subst (λ ks. OnOk c.add_call.result (c.add_call.new.list ≡ c.args.list.now ++ vertices_in c.args.f ks))
    (call_is c.args.seen.now c.args.statement.now b.id b.line b.target b.function b.args c.len.result c.is_stored.result b.is c.len.ensures c.is_stored.ensures) c.add_call.ensures.added

pub returns-in-Invoke-clause-above : goal.returns-in-Invoke-clause-above
returns-in-Invoke-clause-above c =
    let b = c.in-Invoke in
    subst (λ ks. IfErr c.add_call.result (IsAbove (length c.args.list.now + length (vertices_in c.args.f ks))))
    (call_is c.args.seen.now c.args.statement.now b.id b.line b.target b.function b.args c.len.result c.is_stored.result b.is c.len.ensures c.is_stored.ensures) c.add_call.ensures.above
