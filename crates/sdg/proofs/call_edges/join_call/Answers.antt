use Rattle.std.proofs.Common.{◌<◌, ◌≤◌, List, ℕ, length, get_or, sym, subst, arith}
use Rattle.sdg.specs.declared.vertex_lists.Grouping.TheVariants.{Calls}
use Rattle.sdg.specs.SiteEdges.{Adds, IsActualEdge}
use Rattle.sdg.specs.VertexLists.{list_at}
use Rattle.sdg.proofs.AddLemmas.{turns_more, turns_end}
use Rattle.sdg.proofs.PlaceLaws.{listed_within}
use Rattle.sdg.proofs.SiteTurns.{edges_at_call}
use Rattle.sdg.proofs.call_edges.join_call.Goals as goal

pub join_actual-requires-clause-within : goal.join_actual-requires-clause-within
join_actual-requires-clause-within c =
    let i = c.loop-actual.actual-index in
    let within = listed_within Calls c.args.vertices.now c.args.places.now.calls c.args.site.statement c.requires.places.calls_are i 0 in
    subst (λ (r : List ℕ). i < length r → get_or r i 0 < length c.args.vertices.now) (sym c.at-actual-items.ensures) within c.loop-actual-test.true

pub loop-actual-preserved : goal.loop-actual-preserved
loop-actual-preserved c =
    let l = c.loop-actual in
    let i = l.actual-index in
    let xs = list_at c.args.places.now.calls c.args.site.statement in
    let Is = IsActualEdge c.args.vertices.now c.args.site c.args.call in
    let low = subst (λ (r : List ℕ). i < length r) c.at-actual-items.ensures c.loop-actual-test.true in
    let turn = subst (λ (r : List ℕ). Adds l.edges.items c.join_actual.new.edges.items (Is (get_or r i 0))) c.at-actual-items.ensures c.in_ok-join_actual.ensures in
    turns_more Is xs c.join_entry.new.edges.items i 0 l.edges.items c.join_actual.new.edges.items low l.invariant turn

pub returns : goal.returns
returns c =
    let l = c.loop-actual in
    let i = l.actual-index in
    let xs = list_at c.args.places.now.calls c.args.site.statement in
    let high = subst (λ (r : List ℕ). length r ≤ i) c.at-actual-items.ensures (omega (arith, c.loop-actual-test.false)) in
    edges_at_call c.args.vertices.now c.args.places.now c.args.site c.requires.places c.args.call c.args.edges.now.items c.join_entry.new.edges.items l.edges.items c.in_ok-join_entry.ensures
    (turns_end (IsActualEdge c.args.vertices.now c.args.site c.args.call) xs c.join_entry.new.edges.items i l.edges.items high l.invariant)
