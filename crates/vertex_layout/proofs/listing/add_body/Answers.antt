use Rattle.std.proofs.Common.{◌≡◌, ◌+◌, ◌++◌, length, OnOk, ap, ◌∙◌, subst}
use Rattle.std.specs.Result.{IfErr}
use Rattle.dep_model.specs.Doings.{body_doings}
use Rattle.dep_model.specs.VertexOrder.{all_vertices}
use Rattle.vertex_layout.specs.Listing.{IsAbove, vertices_in, all_own_kinds}
use Rattle.vertex_layout.specs.OwnStatements.{own_doings}
use Rattle.vertex_layout.specs.Seen.{effects_in}
use Rattle.vertex_layout.proofs.ListingTurns.{done_kinds}
use Rattle.vertex_layout.proofs.listing.add_body.Goals as goal

pub returns-clause-added : goal.returns-clause-added
returns-clause-added c =
    let s = c.args.seen.now in
    let same : all_own_kinds s (own_doings c.as_slice.result.now) ≡ all_vertices s.program (effects_in s) (body_doings c.args.body.now) =
    ap (λ xs. all_own_kinds s (own_doings xs)) c.as_slice.ensures.value ∙ ap (all_own_kinds s) c.in_ok-statements.ensures ∙ done_kinds s (body_doings c.args.body.now) in
    subst (λ ks. OnOk c.add_statements.result (c.add_statements.new.list ≡ c.args.list.now ++ vertices_in c.args.f ks)) same c.add_statements.ensures.added

pub returns-clause-above : goal.returns-clause-above
returns-clause-above c =
    let s = c.args.seen.now in
    let same : all_own_kinds s (own_doings c.as_slice.result.now) ≡ all_vertices s.program (effects_in s) (body_doings c.args.body.now) =
    ap (λ xs. all_own_kinds s (own_doings xs)) c.as_slice.ensures.value ∙ ap (all_own_kinds s) c.in_ok-statements.ensures ∙ done_kinds s (body_doings c.args.body.now) in
    subst (λ ks. IfErr c.add_statements.result (IsAbove (length c.args.list.now + length (vertices_in c.args.f ks)))) same c.add_statements.ensures.above
