use Rattle.std.proofs.Common.{◌≡◌, ◌+◌, ◌++◌, length, OnOk, subst}
use Rattle.std.specs.Result.{IfErr}
use Rattle.vertex_layout.specs.Listing.{IsAbove, vertices_in}
use Rattle.vertex_layout.proofs.ListingTurns.{function_is}
use Rattle.vertex_layout.proofs.listing.add_function.Goals as goal

pub returns-clause-added : goal.returns-clause-added
returns-clause-added c =
    subst (λ ks. OnOk c.add_parts.result (c.add_parts.new.list ≡ c.args.list.now ++ vertices_in c.args.f ks))
    (function_is c.args.seen.now c.args.f c.args.function.now c.len.result c.as_slice.result.now c.requires.at c.len.ensures c.as_slice.ensures) c.add_parts.ensures.added

pub returns-clause-above : goal.returns-clause-above
returns-clause-above c =
    subst (λ ks. IfErr c.add_parts.result (IsAbove (length c.args.list.now + length (vertices_in c.args.f ks))))
    (function_is c.args.seen.now c.args.f c.args.function.now c.len.result c.as_slice.result.now c.requires.at c.len.ensures c.as_slice.ensures) c.add_parts.ensures.above
